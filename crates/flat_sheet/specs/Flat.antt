-- What `flat_sheet` answers, and the same as the code gives it. Assumes nothing.
use Rattle.std.specs.Prelude.{ℕ, Result, Ok, Err}
use Rattle.refusal.specs.Numbers.{number_of}
use Rattle.load.specs.declared.Refused as refusing
use Rattle.flat_sheet.specs.declared.Flat as counts

-- how many words the node rows are and how many the answer's rows, or 01's number and the record
pub data Flat : Type 0 where
  Rows : ℕ → ℕ → Flat
  Refused : ℕ → ℕ → Flat

abbrev pub told : Result counts.Flat refusing.Refused → Flat
told (Ok f) = Rows f.rows f.answer
told (Err e) = Refused (number_of e.refusal) e.record
