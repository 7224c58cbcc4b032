-- What extract answers (01, "Turned down": Extract). Assumes nothing.
use Rattle.std.specs.Prelude.{ℕ}

-- how many rows and how many bindings, or the number of the refusal
pub data Extraction : Type 0 where
  Rows : ℕ → ℕ → Extraction
  Refused : ℕ → Extraction
