-- A test that antt computes over a span of kind numbers, and what it says of the operand counts of each. Assumes nothing.
use mathlib.Core.Path.{◌≡◌, refl, sym, subst}
use mathlib.Core.Bool.{Bool, true, false, ◌&&◌, not}
use Prim.Native.Nat.{ℕ, zero, suc, ◌+◌, ◌≤◌, ◌<◌}
use native.Mathlib.Omega.{arith}
use borrow.Author.Tests.{lt-ltb, ne_eqb}
use lib.Dec.{T, eqb, ltb, eqb→eq, ltb→lt, nltb→le}
use Rattle.spec_tree.specs.Kinds.{kind_at, Select}
use Rattle.spec_tree.proofs.Logic.{and_left, and_right}
use Rattle.node_rows.specs.kinds.Numbers.{kind_number}

abbrev pub all : (ℕ → Bool) → ℕ → ℕ → Bool
all P lo zero = true
all P lo (suc n) = P lo && all P (suc lo) n

pub span : (P : ℕ → Bool) (lo n : ℕ) → T (all P lo n) → (x : ℕ) → lo ≤ x → x < lo + n → T (P x)
span P lo zero t x h k = absurd (omega arith)
span P lo (suc n) t x h k =
    go (ltb lo x) (ltb→lt lo x) (nltb→le lo x) (λ g. span P (suc lo) n (and_right (P lo) (all P (suc lo) n) t) x g (omega arith))
  where
    here : x ≤ lo → lo ≡ x
    here g = omega arith

    go : (b : Bool) → (T b → lo < x) → (T (not b) → x ≤ lo) → (lo < x → T (P x)) → T (P x)
    go true p q r = r (p tt)
    go false p q r = subst (λ (y : ℕ). T (P y)) (here (q tt)) (and_left (P lo) (all P (suc lo) n) t)

-- the counts at a kind, with a default or without
abbrev pub Counted : ℕ → ℕ → ℕ → Bool → Type 0
Counted f m k d = (f ≡ (kind_at (kind_number k d)).fewest) × (m ≡ (kind_at (kind_number k d)).most)

unfoldable pub is : ℕ → ℕ → Bool → ℕ → Bool
unfolding kind_at
is f m d k = eqb f (kind_at (kind_number k d)).fewest && eqb m (kind_at (kind_number k d)).most

pub counted : (f m k : ℕ) (d : Bool) → T (is f m d k) → Counted f m k d
unfolding is
counted f m k d t =
    let a = eqb f (kind_at (kind_number k d)).fewest in
    let b = eqb m (kind_at (kind_number k d)).most in
    (eqb→eq f (kind_at (kind_number k d)).fewest (and_left a b t), eqb→eq m (kind_at (kind_number k d)).most (and_right a b t))

-- the same counts all over a span, whatever the flag says
pub counts_at : (f m lo n : ℕ) → T (all (λ k. is f m true k && is f m false k) lo n) → (k : ℕ) (d : Bool) → lo ≤ k → k < lo + n → Counted f m k d
counts_at f m lo n t k true h l = counted f m k true (and_left (is f m true k) (is f m false k) (span (λ k. is f m true k && is f m false k) lo n t k h l))
counts_at f m lo n t k false h l = counted f m k false (and_right (is f m true k) (is f m false k) (span (λ k. is f m true k && is f m false k) lo n t k h l))

-- past the kinds nothing fits
pub counts_past : (k : ℕ) (d : Bool) → Select < k → Counted 1 0 k d
unfolding kind_at
counts_past k d h = let n : (k ≡ Select) → ⊥ = λ e. omega arith in rw (ne_eqb k Select n, lt-ltb Select k h) (refl_pair)
  where
    refl_pair : (1 ≡ (kind_at 29).fewest) × (0 ≡ (kind_at 29).most)
    refl_pair = (refl, refl)

pub counts_select : (f m k : ℕ) (d e : Bool) → k ≡ Select → d ≡ e → T (is f m e Select) → Counted f m k d
counts_select f m k d e h g t = counted f m k d (subst (λ (b : Bool). T (is f m b k)) (sym g) (subst (λ (j : ℕ). T (is f m e j)) (sym h) t))
