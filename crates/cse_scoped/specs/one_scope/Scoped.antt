-- What a scope answers (01, "Scoped fusion"). Assumes nothing.
use Rattle.std.specs.Prelude.{ℕ}

-- the place after its rows, its statements, the next number and the extraction count, or the number of the refusal
pub data Scoped : Type 0 where
  Told : ℕ → ℕ → ℕ → ℕ → Scoped
  Refused : ℕ → Scoped
