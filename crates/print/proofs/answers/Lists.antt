-- The library's words for lists are those that the definitions of answers have. Assumes nothing.
use Rattle.std.proofs.Common.{◌≡◌, ℕ, ◌+◌, ◌*◌, ◌/◌, ◌<◌, get_or, sym, ◌-◌, Bool, true, false, ◌&&◌, ◌||◌, List, [], ◌∷◌, length, take, drop, eqb, refl, ap, arith}
use Rattle.std.specs.List.{list_all, list_any}
use lib.ListN.{length-drop}
use lib.Seq.{take_all}
use Rattle.spec_tree.specs.Bytes.{every}
use borrow.Author.Tests.{eqb-true, eqb-false, clash}
use Rattle.fmt.specs.checked.Check.{rows_in}
use Rattle.laws.specs.answer.First.{first_row}
use Rattle.laws.specs.answer.Seen.{occurs}
use Rattle.laws.proofs.answer.RowFirst.{first_not, first_no}

pub every_is : (p : ℕ → Bool) (l : List ℕ) → list_all p l ≡ every p l
unfolding every
every_is p [] = refl
every_is p (x ∷ l) = ap (λ (b : Bool). p x && b) (every_is p l)

pub occurs_is : (w : ℕ) (l : List ℕ) → list_any (λ (y : ℕ). eqb y w) l ≡ occurs w l
unfolding occurs
occurs_is w [] = refl
occurs_is w (v ∷ l) = go (eqb v w) (occurs_is w l)
  where
    go : (b : Bool) {p q : Bool} → p ≡ q → (b || p) ≡ elim b [ true ↦ true | false ↦ q ]
    go true e = refl
    go false e = e

-- a slice to the end
pub to_end : (ws : List ℕ) (k : ℕ) → take (length ws - k) (drop k ws) ≡ drop k ws
to_end ws k = take_all (length ws - k) (drop k ws) (omega (arith, length-drop k ws))

-- ---- rows that are no symbol's

pub both_zero : (a b : ℕ) → true ≡ (eqb a 0 && eqb b 0) → (a ≡ 0) × (b ≡ 0)
both_zero a b e = go (eqb a 0) (eqb b 0) refl refl e
  where
    go : (x y : Bool) → eqb a 0 ≡ x → eqb b 0 ≡ y → true ≡ (x && y) → (a ≡ 0) × (b ≡ 0)
    go true true p q e = (eqb-true a 0 p, eqb-true b 0 q)
    go true false p q e = absurd (clash (sym e))
    go false y p q e = absurd (clash (sym e))

pub not_both_zero : (a b : ℕ) → false ≡ (eqb a 0 && eqb b 0) → 0 < a + b
not_both_zero a b e = go (eqb a 0) (eqb b 0) refl refl e
  where
    go : (x y : Bool) → eqb a 0 ≡ x → eqb b 0 ≡ y → false ≡ (x && y) → 0 < a + b
    go true true p q e = absurd (clash e)
    go true false p q e = omega (arith, eqb-false b 0 q)
    go false y p q e = omega (arith, eqb-false a 0 p)

pub first_other : (ws : List ℕ) (n : ℕ) → n < length ws / 35 → 0 < get_or ws (n * 35) 0 + get_or ws (n * 35 + 1) 0 → false ≡ first_row (rows_in ws) n
first_other ws n h p = go (eqb (get_or ws (n * 35) 0) 0) refl
  where
    go : (x : Bool) → eqb (get_or ws (n * 35) 0) 0 ≡ x → false ≡ first_row (rows_in ws) n
    go true q = first_no ws n h (λ z. omega (arith, eqb-true (get_or ws (n * 35) 0) 0 q, z, p))
    go false q = first_not ws n h (eqb-false (get_or ws (n * 35) 0) 0 q)
