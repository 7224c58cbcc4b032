-- What reading all records answers, and the same as the code gives it. Assumes nothing.
use Rattle.std.specs.Prelude.{ℕ, Result, Ok, Err}
use Rattle.refusal.specs.Numbers.{number_of}
use Rattle.load.specs.declared.Refused as refusing
use Rattle.load.specs.declared.recordlist.Contents.{Contents}

-- how many rows, roots and records a sheet has, or the number and the record of its first refusal
pub data Records : Type 0 where
  All : ℕ → ℕ → ℕ → Records
  Refused : ℕ → ℕ → Records

abbrev pub told_records : Result Contents refusing.Refused → Records
told_records (Ok c) = All c.table.rows c.table.roots c.records
told_records (Err e) = Refused (number_of e.refusal) e.record
