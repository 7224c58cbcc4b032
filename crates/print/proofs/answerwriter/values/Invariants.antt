use Rattle.std.proofs.Common.{◌≡◌, List, length}
use Rattle.fmt.specs.checked.Check.{rows_in}
use Rattle.spec_tree.specs.Tree.{Tree}
use Rattle.spec_cse.specs.AnswerRows.{value_row}
use Rattle.print.specs.told.Places.{ValuesAt}
use Rattle.print.proofs.told.LoopLaws.{ValuesLeft}
use Rattle.print.proofs.answerwriter.values.Given as goal

abbrev pub invariant-loop-i : goal.invariant-loop-i
invariant-loop-i l =
    (length l.out ≡ length l.initial.out)
    × ((vs : List Tree) → ValuesAt (rows_in l.rows) l.words value_row l.n l.at vs → ValuesLeft (rows_in l.rows) l.words l.n l.at l.dry l.initial.out l.initial.end vs l.i l.next l.out l.end)
