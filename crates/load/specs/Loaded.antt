-- What load answers (01, "Turned down": Load), and the same as the code gives it. Assumes nothing.
use Rattle.std.specs.Prelude.{ℕ, Result, Ok, Err}
use Rattle.refusal.specs.Numbers.{number_of}
use Rattle.load.specs.declared.Table as counts
use Rattle.load.specs.declared.Refused as refusing

-- how many rows and roots, or 01's number and the record
pub data Loaded : Type 0 where
  Table : ℕ → ℕ → Loaded
  Refused : ℕ → ℕ → Loaded

abbrev pub told : Result counts.Table refusing.Refused → Loaded
told (Ok t) = Table t.rows t.roots
told (Err e) = Refused (number_of e.refusal) e.record
