-- Two operands: where they stand, and what they have together. Assumes nothing.
use Prim.Native.Nat.{ℕ, ◌+◌, ◌*◌, ◌≤◌, ◌<◌, max}
use native.Mathlib.Omega.{arith}
use mathlib.Core.Path.{◌≡◌, ap, ◌∙◌}
use mathlib.Core.List.{List}
use lib.ListN.{length, get_or}
use Rattle.spec_tree.specs.Facts.{total, greatest}
use Rattle.rounds.specs.measure.Columns.{column, Inside}
use Rattle.rounds.specs.measure.Operands.{Together}
use Rattle.rounds.specs.value_numbers.Classes.{mixed, mixed_all}
use Rattle.rounds.specs.value_numbers.Walks.{below, Walk}

module _ (fs cl : List ℕ) (p : ℕ) where
  abbrev second : ℕ
  second = p + get_or fs (4 * p) 0

  pub record Pair : Type 0 where
    pub first_facts : 4 * p + 3 < length fs
    pub within : second ≤ length fs
    pub second_facts : 4 * second + 3 < length fs
    pub first_class : p < length cl
    pub second_class : second < length cl

  pub pair : Inside fs p 2 → Walk fs cl p 2 → Pair
  unfolding Inside Walk
  pair i k = record { first_facts = i.0; within = i.1; second_facts = i.2.0; first_class = k.1; second_class = k.3.1 }

  pub sizes_are : get_or fs (4 * p) 0 + get_or fs (4 * second) 0 ≡ total (column fs 0 p 2)
  unfolding column total
  sizes_are =
      let a : 4 * p + 0 ≡ 4 * p = omega arith in
      let b : 4 * second + 0 ≡ 4 * second = omega arith in
      rw (a, b) (omega arith)

  pub costs_are : get_or fs (4 * p + 1) 0 + get_or fs (4 * second + 1) 0 ≡ total (column fs 1 p 2)
  unfolding column total
  costs_are = omega arith

  pub pair_together :
      (w d h k k' : ℕ) → d ≡ max (get_or fs (4 * p + 2) 0) (get_or fs (4 * second + 2) 0) → h ≡ max (get_or fs (4 * p + 3) 0) (get_or fs (4 * second + 3) 0)
      → k ≡ mixed w (get_or cl p 0) → k' ≡ mixed k (get_or cl second 0)
      → Together fs cl w p 2 (get_or fs (4 * p) 0 + get_or fs (4 * second) 0) (get_or fs (4 * p + 1) 0 + get_or fs (4 * second + 1) 0) d h k'
  unfolding column greatest below mixed_all
  pair_together w d h k k' ed eh ek ek' =
      record {
        sizes = sizes_are;
        costs = costs_are;
        depths = ed ∙ omega arith;
        symbols = eh ∙ omega arith;
        key = ek' ∙ ap (λ (x : ℕ). mixed x (get_or cl second 0)) ek;
      }
