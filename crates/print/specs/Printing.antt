-- What print answers (01, "Turned down": Print): the number of bytes written, or the refusal's number. Assumes nothing.
use Rattle.std.specs.Prelude.{ℕ, List, length, Result, Ok, Err}
use Rattle.spec_tree.specs.Outcome.{Outcome, ok, refused}
use Rattle.refusal.specs.Numbers.{number_of}
use Rattle.refusal.specs.declared.Refusal.{Refusal}

pub data Printed : Type 0 where
  Bytes : ℕ → Printed
  Refused : ℕ → Printed

-- what a result of print tells
abbrev pub told : Result ℕ Refusal → Printed
told (Ok n) = Bytes n
told (Err r) = Refused (number_of r)

unfoldable pub printed : Outcome (List ℕ) → Printed
printed (ok text) = Bytes (length text)
printed (refused r) = Refused r.number
