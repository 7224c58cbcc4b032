-- What an arm or the arms of a match answer (01, "Scoped fusion"). Assumes nothing.
use Rattle.std.specs.Prelude.{ℕ}

-- the place after the rows, the next number and the extraction count, or the number of the refusal
pub data Armed : Type 0 where
  Rows : ℕ → ℕ → ℕ → Armed
  Refused : ℕ → Armed
