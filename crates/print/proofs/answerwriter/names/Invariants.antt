use Rattle.std.proofs.Common.{◌≡◌, List, length}
use Rattle.fmt.specs.checked.Check.{rows_in}
use Rattle.spec_tree.specs.Tree.{Name}
use Rattle.print.specs.told.Places.{NamesAt}
use Rattle.print.proofs.told.NameLoop.{NamesLeft}
use Rattle.print.proofs.answerwriter.names.Given as goal

abbrev pub invariant-loop-i : goal.invariant-loop-i
invariant-loop-i l =
    (length l.out ≡ length l.initial.out)
    × ((ns : List Name) → NamesAt (rows_in l.rows) l.words l.n l.at ns → NamesLeft (rows_in l.rows) l.words l.n l.at l.dry l.initial.out l.initial.end ns l.i l.out l.end)
