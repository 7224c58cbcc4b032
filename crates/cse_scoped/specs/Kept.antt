-- Rows of a scope that are kept for a table. Assumes nothing.
use Rattle.std.specs.Prelude.{ℕ, ◌≤◌, List, length, take}
use Rattle.spec_tree.specs.Outcome.{Outcome}
use Rattle.fusion.specs.place.Overlay.{overlay}
use Rattle.fusion.specs.place.Whole.{Told}
use Rattle.cse_scoped.specs.one_scope.Answers.{ScopeLaid}

-- the first n words are the scope's rows, if there are so many: laid over any table they are those that the scope would lay
abbrev pub Keeps : Outcome Told → ℕ → List ℕ → Type 0
Keeps o n kept = n ≤ length kept → (old : List ℕ) → ScopeLaid o 0 old (overlay 0 (take n kept) old)
