-- What the operands of a word have together, and the key of its chain. Assumes nothing.
use Rattle.std.specs.Prelude.{ℕ, ◌≡◌, List}
use Rattle.spec_tree.specs.Facts.{total, greatest}
use Rattle.rounds.specs.measure.Columns.{column}
use Rattle.rounds.specs.value_numbers.Classes.{mixed_all}
use Rattle.rounds.specs.value_numbers.Walks.{below}

pub record Together (fs cl : List ℕ) (w p n s c d h k : ℕ) : Type 0 where
  pub sizes : s ≡ total (column fs 0 p n)
  pub costs : c ≡ total (column fs 1 p n)
  pub depths : d ≡ greatest (column fs 2 p n)
  pub symbols : h ≡ greatest (column fs 3 p n)
  pub key : k ≡ mixed_all w (below fs cl p n)
