-- What was moved is no more than what was lent. Assumes nothing.
use Rattle.std.specs.Prelude.{ℕ, ◌≤◌, Result, Ok, Err}

abbrev pub Within : {E : Type 0} → Result ℕ E → ℕ → Type 0
Within (Ok n) lent = n ≤ lent
Within (Err e) lent = Unit {0}
