-- The order of texts is strict and total: no text is before itself, before a text that is before it, or neither before nor after a different one. So the later
-- of texts met one after another is the latest of them all, and of equal ones the first. Assumes nothing.
use Prim.Native.Nat.{ℕ, zero, suc, ◌<◌}
use native.Mathlib.Omega.{arith}
use mathlib.Core.Path.{◌≡◌, refl, sym, ◌∙◌, ap, ap₂, subst}
use mathlib.Core.Bool.{Bool, true, false, cond}
use mathlib.Core.Logic.{◌⊎◌, inl, inr, ⊎_elim}
use mathlib.Core.List.{List, [], ◌∷◌}
use borrow.Author.Tests.{eqb-true, eqb-false, ltb-true, ltb-false, lt-ltb}
use lib.Dec.{T, eqb, ltb}
use lib.ListN.{length, get_or}
use Rattle.spec_tree.specs.text.Text.{before, later}
use Rattle.fmt.proofs.order.Comparing.{same_byte, other_byte, later_second, later_first}
use Rattle.spec_tree.proofs.Logic.{not_true, never}

-- ---- a test as an equation

is_true : (b : Bool) → T b → b ≡ true
is_true true t = refl
is_true false t = absurd t

holds : (b : Bool) → b ≡ true → T b
holds b e = subst T (sym e) tt

-- ---- one byte

-- the first bytes decide, or they are equal and the rest does
byte_decides : (a b : ℕ) (s t : List ℕ) → T (before (a ∷ s) (b ∷ t)) → (a < b) ⊎ ((a ≡ b) × T (before s t))
byte_decides a b s t h = go (eqb a b) refl
  where
    go : (q : Bool) → eqb a b ≡ q → (a < b) ⊎ ((a ≡ b) × T (before s t))
    go true e = let d = eqb-true a b e in inr (d, subst T (same_byte a b s t d) h)
    go false e = inl (ltb-true a b (is_true (ltb a b) (subst T (other_byte a b s t (eqb-false a b e)) h)))

less_byte : (a b : ℕ) (s t : List ℕ) → a < b → T (before (a ∷ s) (b ∷ t))
less_byte a b s t h = subst T (sym (other_byte a b s t (λ e. omega arith) ∙ lt-ltb a b h)) tt

equal_byte : (a b : ℕ) (s t : List ℕ) → a ≡ b → T (before s t) → T (before (a ∷ s) (b ∷ t))
equal_byte a b s t e h = subst T (sym (same_byte a b s t e)) h

-- ---- strict

pub not_before_itself : (s : List ℕ) → before s s ≡ false
not_before_itself [] = unfold before in refl
not_before_itself (a ∷ s) = same_byte a a s s refl ∙ not_before_itself s

through_bytes :
    (a b c : ℕ) (s t u : List ℕ) → (T (before s t) → T (before t u) → T (before s u)) → T (before (a ∷ s) (b ∷ t)) → T (before (b ∷ t) (c ∷ u)) → T (before (a ∷ s) (c ∷ u))
through_bytes a b c s t u rest h g = ⊎_elim first second (byte_decides a b s t h)
  where
    first : a < b → T (before (a ∷ s) (c ∷ u))
    first l = ⊎_elim (λ m. less_byte a c s u (omega arith)) (λ m. less_byte a c s u (let e = m.0 in omega arith)) (byte_decides b c t u g)

    second : (a ≡ b) × T (before s t) → T (before (a ∷ s) (c ∷ u))
    second l =
        let e = l.0 in
        ⊎_elim (λ m. less_byte a c s u (omega arith)) (λ m. equal_byte a c s u (e ∙ m.0) (rest l.1 m.1)) (byte_decides b c t u g)

pub before_through : (s t u : List ℕ) → T (before s t) → T (before t u) → T (before s u)
unfolding before
before_through [] [] u h g = absurd h
before_through [] (b ∷ t) [] h g = absurd g
before_through [] (b ∷ t) (c ∷ u) h g = tt
before_through (a ∷ s) [] u h g = absurd h
before_through (a ∷ s) (b ∷ t) [] h g = absurd g
before_through (a ∷ s) (b ∷ t) (c ∷ u) h g = through_bytes a b c s t u (before_through s t u) h g

pub not_both : (s t : List ℕ) → T (before s t) → T (before t s) → ⊥
not_both s t h g = never (before s s) (not_before_itself s) (before_through s t s h g)

-- ---- total

equal_bytes :
    (a b : ℕ) (s t : List ℕ) → (before s t ≡ false → before t s ≡ false → s ≡ t) → before (a ∷ s) (b ∷ t) ≡ false → before (b ∷ t) (a ∷ s) ≡ false → a ∷ s ≡ b ∷ t
equal_bytes a b s t rest h g = go (eqb a b) refl
  where
    go : (q : Bool) → eqb a b ≡ q → a ∷ s ≡ b ∷ t
    go true e = let d = eqb-true a b e in ap₂ ◌∷◌ d (rest (sym (same_byte a b s t d) ∙ h) (sym (same_byte b a t s (sym d)) ∙ g))
    go false e =
        let n = eqb-false a b e in
        let l = ltb-false a b (sym (other_byte a b s t n) ∙ h) in
        let m = ltb-false b a (sym (other_byte b a t s (λ d. n (sym d))) ∙ g) in
        absurd (n (omega arith))

pub equal_texts : (s t : List ℕ) → before s t ≡ false → before t s ≡ false → s ≡ t
unfolding before
equal_texts [] [] h g = refl
equal_texts [] (b ∷ t) h g = absurd (subst T h tt)
equal_texts (a ∷ s) [] h g = absurd (subst T g tt)
equal_texts (a ∷ s) (b ∷ t) h g = equal_bytes a b s t (equal_texts s t) h g

-- a text that is not before another, which is not before a third, is not before the third
pub not_before_through : (s t u : List ℕ) → before s t ≡ false → before t u ≡ false → before s u ≡ false
not_before_through s t u h g = not_true (before s u) (λ k. go (before t s) refl k)
  where
    go : (q : Bool) → before t s ≡ q → T (before s u) → ⊥
    go true e k = never (before t u) g (before_through t s u (holds (before t s) e) k)
    go false e k = never (before t u) g (subst (λ (r : List ℕ). T (before r u)) (equal_texts s t h e) k)

-- ---- the later of two

module _ (s t : List ℕ) where
  -- it is one of the two
  pub later_is : (later s t ≡ s) ⊎ (later s t ≡ t)
  later_is = go (before s t) refl
    where
      go : (q : Bool) → before s t ≡ q → (later s t ≡ s) ⊎ (later s t ≡ t)
      go true e = inr (sym (later_second s t (sym e)))
      go false e = inl (sym (later_first s t (sym e)))

  -- and before neither
  pub later_not_before_first : before (later s t) s ≡ false
  later_not_before_first = go (before s t) refl
    where
      go : (q : Bool) → before s t ≡ q → before (later s t) s ≡ false
      go true e = rw (← later_second s t (sym e)) (not_true (before t s) (λ k. not_both s t (holds (before s t) e) k))
      go false e = rw (← later_first s t (sym e)) (not_before_itself s)

  pub later_not_before_second : before (later s t) t ≡ false
  later_not_before_second = go (before s t) refl
    where
      go : (q : Bool) → before s t ≡ q → before (later s t) t ≡ false
      go true e = rw (← later_second s t (sym e)) (not_before_itself t)
      go false e = rw (← later_first s t (sym e)) e

-- however three are paired, the same one is handed on
pub later_of_three : (s t u : List ℕ) → later (later s t) u ≡ later s (later t u)
later_of_three s t u = go (before s t) refl (before t u) refl
  where
    go : (p : Bool) → before s t ≡ p → (q : Bool) → before t u ≡ q → later (later s t) u ≡ later s (later t u)
    go true e true f =
        let k = is_true (before s u) (before_through s t u (holds (before s t) e) (holds (before t u) f)) in
        rw (← later_second s t (sym e), ← later_second t u (sym f), ← later_second s u (sym k))
    go true e false f = rw (← later_second s t (sym e), ← later_first t u (sym f), ← later_second s t (sym e))
    go false e true f = rw (← later_first s t (sym e), ← later_second t u (sym f))
    go false e false f =
        let k = not_before_through s t u e f in
        rw (← later_first s t (sym e), ← later_first t u (sym f), ← later_first s t (sym e), ← later_first s u (sym k))

-- ---- the latest of many, met one after another

abbrev pub latest : List ℕ → List (List ℕ) → List ℕ
latest s [] = s
latest s (t ∷ l) = latest (later s t) l

-- the one in hand is never before what it was
latest_keeps : (s : List ℕ) (l : List (List ℕ)) → before (latest s l) s ≡ false
latest_keeps s [] = not_before_itself s
latest_keeps s (t ∷ l) = not_before_through (latest (later s t) l) (later s t) s (latest_keeps (later s t) l) (later_not_before_first s t)

-- no text met is after it
pub latest_of_all : (s : List ℕ) (l : List (List ℕ)) (i : ℕ) → i < length l → before (latest s l) (get_or l i []) ≡ false
latest_of_all s [] i h = absurd (omega arith)
latest_of_all s (t ∷ l) zero h = not_before_through (latest (later s t) l) (later s t) t (latest_keeps (later s t) l) (later_not_before_second s t)
latest_of_all s (t ∷ l) (suc i) h = latest_of_all (later s t) l i (omega arith)

-- the latest of a list joins the one in hand in one step
pub latest_joins : (s t : List ℕ) (l : List (List ℕ)) → latest (later s t) l ≡ later s (latest t l)
latest_joins s t [] = refl
latest_joins s t (u ∷ l) = ap (λ (r : List ℕ). latest r l) (later_of_three s t u) ∙ latest_joins s (later t u) l

-- a text that comes before another comes before the later of the two
pub before_later : (s t : List ℕ) → before s (later s t) ≡ before s t
unfolding later
before_later s t = go (before s t) refl
  where
    go : (b : Bool) → before s t ≡ b → before s (cond b t s) ≡ b
    go true e = e
    go false e = not_before_itself s
