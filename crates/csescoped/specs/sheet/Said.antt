-- What `scoped_sheet` answers, and the same as the code gives it. Assumes nothing.
use Rattle.std.specs.Prelude.{ℕ, Result, Ok, Err}
use Rattle.refusal.specs.Numbers.{number_of}
use Rattle.load.specs.declared.Refused as refusing

-- how many bytes the text is, or 01's number and the record
pub data Said : Type 0 where
  Bytes : ℕ → Said
  Refused : ℕ → ℕ → Said

abbrev pub told : Result ℕ refusing.Refused → Said
told (Ok n) = Bytes n
told (Err e) = Refused (number_of e.refusal) e.record
