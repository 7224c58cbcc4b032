-- What reading one record more answers, and the same as the code gives it. Assumes nothing.
use Rattle.std.specs.Prelude.{ℕ, Result, Ok, Err}
use Rattle.refusal.specs.declared.Refusal.{Refusal}
use Rattle.refusal.specs.Numbers.{number_of}
use Rattle.load.specs.declared.Table.{Table}

-- how many rows and roots there are after it, or the number of its refusal
pub data Step : Type 0 where
  Next : ℕ → ℕ → Step
  Refused : ℕ → Step

abbrev pub told_step : Result Table Refusal → Step
told_step (Ok t) = Next t.rows t.roots
told_step (Err e) = Refused (number_of e)
