-- What is printed for a sheet from what `flat_sheet` answers and leaves: all lines of the answer's rows, with so many bytes lent for each, or the line for a refusal, is what the
-- definition of the program says (01, "Sheet and printing"). Assumes nothing.
use Rattle.std.specs.Prelude.{ℕ, ◌≤◌, ◌≡◌, List, take}
use Rattle.std.proofs.Math.Option.{some}
use Rattle.spec_program.specs.Program.{csesheet}
use Rattle.print.specs.lines.Line.{lines_from}
use Rattle.print.specs.lines.Refusal.{refusal_text}
use Rattle.flat_sheet.specs.Flat.{Flat}
use Rattle.flat_sheet.specs.Flat as flat

abbrev pub Says : List ℕ → Flat → List ℕ → List ℕ → Type 0
Says sheet (flat.Rows n k) rows table = (lent fuel : ℕ) → 34857 ≤ lent → k ≤ fuel → lines_from lent fuel (take n rows) (take k table) 0 ≡ some (csesheet sheet)
Says sheet (flat.Refused number place) rows table = refusal_text number place ≡ csesheet sheet
