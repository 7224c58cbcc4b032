use Prim.Native.Nat.{◌-◌}
use mathlib.Core.Path.{◌≡◌}
use lib.ListN.{length}
use mathlib.Core.List.{List}
use Rattle.fmt.specs.checked.Check.{rows_in}
use Rattle.spec_tree.specs.Tree.{Tree}
use Rattle.print.specs.told.Writers.{ResultsAt}
use Rattle.print.proofs.told.LineLoops.{ResultsLeft}
use Rattle.print.proofs.answerwriter.results.Given as goal

abbrev pub invariant-loop-next : goal.invariant-loop-next
invariant-loop-next l = (length l.out ≡ length l.initial.out) × ((vs : List Tree) → ResultsAt (rows_in l.rows) l.words l.at vs → ResultsLeft (rows_in l.rows) l.words l.dry l.initial.out l.initial.end vs l.next l.out l.end)

abbrev pub decreases-loop-next : goal.decreases-loop-next
decreases-loop-next l = length l.words - l.next
