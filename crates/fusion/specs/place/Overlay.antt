-- Words written over others from a place on; those past the end are dropped. So that what is measured is what would be written to an empty table. Assumes nothing.
use Rattle.std.specs.Prelude.{ℕ, ◌+◌, ◌-◌, List, ◌++◌, length, take, drop}

unfoldable pub overlay : ℕ → List ℕ → List ℕ → List ℕ
overlay at new old = take at old ++ (take (length old - at) new ++ drop (at + length new) old)
