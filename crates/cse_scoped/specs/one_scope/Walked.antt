-- What the walk over the groups of a scope answers (01, "Scoped fusion"). Assumes nothing.
use Rattle.std.specs.Prelude.{ℕ}

-- the next number and the extraction count, or the number of the refusal
pub data Walked : Type 0 where
  Done : ℕ → ℕ → Walked
  Refused : ℕ → Walked
