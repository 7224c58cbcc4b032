-- Tests that are known to pass: one of a byte, of every byte, of every entry of a table. Assumes nothing.
use Prim.Native.Nat.{ℕ, zero, suc, ◌+◌, ◌≤◌, ◌<◌}
use mathlib.Core.Path.{◌≡◌, refl, subst}
use mathlib.Core.Bool.{Bool, true, false, ◌&&◌}
use mathlib.Core.List.{List, [], ◌∷◌, ◌++◌}
use native.Mathlib.Omega.{arith}
use lib.ListN.{length, get_or}
use lib.Dec.{T, eqb, ltb, ltb→lt, lt→ltb, eqb_refl}
use Rattle.spec_tree.specs.Bytes.{every}
use Rattle.spec_tree.proofs.Logic.{and_left, and_right, and_both}

pub is_true : (b : Bool) → T b → b ≡ true
is_true true h = refl
is_true false h = absurd h

pub eq→eqb : (m n : ℕ) → m ≡ n → T (eqb m n)
eq→eqb m n e = subst (λ (k : ℕ). T (eqb m k)) e (eqb_refl m)

-- ---- every byte

pub every_more : (p : ℕ → Bool) (l r : List ℕ) → T (every p l) → T (every p r) → T (every p (l ++ r))
unfolding every
every_more p [] r g h = h
every_more p (b ∷ l) r g h = and_both (p b) (every p (l ++ r)) (and_left (p b) (every p l) g) (every_more p l r (and_right (p b) (every p l) g) h)

pub every_implies : (p q : ℕ → Bool) → ((b : ℕ) → T (p b) → T (q b)) → (l : List ℕ) → T (every p l) → T (every q l)
unfolding every
every_implies p q f [] h = tt
every_implies p q f (b ∷ l) h = and_both (q b) (every q l) (f b (and_left (p b) (every p l) h)) (every_implies p q f l (and_right (p b) (every p l) h))

pub every_less : (m n : ℕ) → m ≤ n → (l : List ℕ) → T (every (λ i. ltb i m) l) → T (every (λ i. ltb i n) l)
every_less m n h l t = every_implies (λ i. ltb i m) (λ i. ltb i n) (λ i u. lt→ltb i n (let q = ltb→lt i m u in omega arith)) l t

-- ---- every entry of a table, counted from i

abbrev pub all_from : {A : Type 0} → (ℕ → A → Bool) → ℕ → List A → Bool
all_from test i [] = true
all_from test i (x ∷ l) = test i x && all_from test (suc i) l

pub entry : {A : Type 0} (test : ℕ → A → Bool) (d : A) (l : List A) (i : ℕ) → T (all_from test i l) → (k : ℕ) → k < length l → T (test (i + k) (get_or l k d))
entry test d [] i h k less = absurd (omega arith)
entry test d (x ∷ l) i h zero less = subst (λ (m : ℕ). T (test m x)) (omega arith) (and_left (test i x) (all_from test (suc i) l) h)
entry test d (x ∷ l) i h (suc k) less =
    subst (λ (m : ℕ). T (test m (get_or l k d))) (omega arith) (entry test d l (suc i) (and_right (test i x) (all_from test (suc i) l) h) k (omega arith))

pub entry_at : {A : Type 0} (test : ℕ → A → Bool) (d : A) (l : List A) → T (all_from test 0 l) → (k : ℕ) → k < length l → T (test k (get_or l k d))
entry_at test d l h k less = subst (λ (m : ℕ). T (test m (get_or l k d))) (omega arith) (entry test d l 0 h k less)
