-- What print that is called from another language returns and leaves in each slice that is lent (01, "Turned down": Print). Assumes nothing.
use Rattle.std.specs.Prelude.{ℕ, List, ◌∷◌, drop}
use Rattle.print.specs.Printing.{Printed}
use Rattle.print.specs.Printing as printed
use Rattle.capi.specs.Calls.{Calls}

-- 0 for an answer's text, and 01's number for one that is refused
unfoldable pub printed_number : Printed → ℕ
printed_number (printed.Bytes n) = 0
printed_number (printed.Refused q) = q

-- how many bytes were written, in front of what was lent for it
unfoldable pub printed_answer : Printed → List ℕ → List ℕ
printed_answer (printed.Bytes n) old = n ∷ drop 1 old
printed_answer (printed.Refused q) old = old

-- what print answers and the bytes after it
abbrev pub Prints : Printed → List ℕ → List ℕ → List ℕ → ℕ → List ℕ → List ℕ → Type 0
Prints p bytes old_out old_said = Calls 1 (printed_number p) bytes (printed_answer p old_said) old_out old_said
