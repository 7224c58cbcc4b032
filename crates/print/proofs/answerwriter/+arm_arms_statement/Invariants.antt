use Rattle.std.proofs.Common.{◌≡◌, ◌+◌, ◌-◌, ◌*◌, List, length}
use Rattle.spec_tree.specs.Tree.{Tree}
use Rattle.spec_cse.specs.Answer.{Intermediates, Arms}
use Rattle.fmt.specs.checked.Check.{rows_in}
use Rattle.print.specs.told.Places.{ArmAt, ArmsAt}
use Rattle.print.proofs.told.ArmLoops.{StmtsLeft, ArmsLeft}
use Rattle.print.proofs.answerwriter.+arm_arms_statement.Given as goal

abbrev pub decreases-statement : goal.decreases-statement
decreases-statement l = (length l.words.now - l.at) * 2

abbrev pub decreases-arms : goal.decreases-arms
decreases-arms l = (length l.words.now - l.at) * 2 + 1

abbrev pub decreases-arm : goal.decreases-arm
decreases-arm l = (length l.words.now - l.at) * 2

abbrev pub invariant-arm-loop : goal.invariant-arm-loop
invariant-arm-loop l =
    (length l.out ≡ length l.initial.out)
    × ((s : Intermediates) (vs : List Tree) → ArmAt (rows_in l.rows) l.words l.bound l.at s vs → StmtsLeft (rows_in l.rows) l.words l.bound l.at l.bare l.dry l.initial.out l.initial.end s vs l.count l.counter l.next l.out l.end)

abbrev pub invariant-arms-loop-i : goal.invariant-arms-loop-i
invariant-arms-loop-i l =
    (length l.out ≡ length l.initial.out)
    × ((l' : Arms) → ArmsAt (rows_in l.rows) l.words l.bound l.form.count l.at l' → ArmsLeft (rows_in l.rows) l.words l.bound l.form.count l.at l.form.bare l.form.defaulted l.dry l.initial.out l.initial.end l' l.i l.next l.out l.end)
