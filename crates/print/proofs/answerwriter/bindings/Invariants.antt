use Prim.Native.Nat.{◌-◌}
use mathlib.Core.Path.{◌≡◌}
use lib.ListN.{length}
use Rattle.spec_cse.specs.Answer.{Answer}
use Rattle.fmt.specs.checked.Check.{rows_in}
use Rattle.print.specs.told.Writers.{AnswerAt}
use Rattle.print.proofs.told.LineLoops.{BindingsLeft}
use Rattle.print.proofs.answerwriter.bindings.Given as goal

abbrev pub invariant-loop-out : goal.invariant-loop-out
invariant-loop-out l = (length l.out ≡ length l.initial.out) × ((a : Answer) → AnswerAt (rows_in l.rows) l.words a → BindingsLeft (rows_in l.rows) l.words l.dry l.initial.out l.initial.end a l.next l.out l.end)

abbrev pub decreases-loop-out : goal.decreases-loop-out
decreases-loop-out l = length l.words - l.next
