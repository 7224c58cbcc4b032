-- Two texts compared at their first byte and as the library compares slices, and the later of them. Assumes nothing.
use Prim.Native.Nat.{ℕ}
use mathlib.Core.Path.{◌≡◌, refl}
use mathlib.Core.Bool.{Bool, true, false}
use mathlib.Core.List.{List, ◌∷◌}
use native.Mathlib.Omega.{arith}
use borrow.Author.Tests.{eq-eqb, ne_eqb}
use lib.Dec.{eqb, ltb}
use Rattle.std.specs.Prelude.{Some}
use Rattle.std.specs.Ordering.{nat_cmp, is_lt, is_some_and}
use Rattle.std.specs.Cmp.Lexicographic.{slice_partial_cmp}
use Rattle.std.proofs.lemmas.Bool.Decides.{nat_tests}
use Rattle.std.proofs.lemmas.Cmp.{same_from_slice_cmp_tested}
use Rattle.spec_tree.specs.text.Text.{before, later}

-- ---- the first byte

taken : (q x y : Bool) → q ≡ true → ◌≡◌ {A = Bool} (elim q [ true ↦ x | false ↦ y ]) x
taken true x y e = refl
taken false x y e = cc

left : (q x y : Bool) → q ≡ false → ◌≡◌ {A = Bool} (elim q [ true ↦ x | false ↦ y ]) y
left true x y e = cc
left false x y e = refl

pub same_byte : (a b : ℕ) (s t : List ℕ) → a ≡ b → before (a ∷ s) (b ∷ t) ≡ before s t
unfolding before
same_byte a b s t e = taken (eqb a b) (before s t) (ltb a b) (eq-eqb a b e)

pub other_byte : (a b : ℕ) (s t : List ℕ) → (a ≡ b → ⊥) → before (a ∷ s) (b ∷ t) ≡ ltb a b
unfolding before
other_byte a b s t n = left (eqb a b) (before s t) (ltb a b) (ne_eqb a b n)

-- ---- as the library compares slices

-- its order of slices is the order of texts
pub library_before : (s t : List ℕ) (r : Bool) → r ≡ is_some_and is_lt (slice_partial_cmp (λ x y. Some (nat_cmp x y)) s t) → r ≡ before s t
unfolding before
library_before = same_from_slice_cmp_tested nat_cmp is_lt before refl (λ _ _. refl) (λ _ _. refl) (λ x y xs ys o h. grind (arith, nat_tests))

-- ---- the later of two

pub later_second : (s t : List ℕ) → true ≡ before s t → t ≡ later s t
unfolding later
later_second s t e = rw (← e)

pub later_first : (s t : List ℕ) → false ≡ before s t → s ≡ later s t
unfolding later
later_first s t e = rw (← e)
