use Rattle.std.proofs.Common.{◌+◌, ◌-◌, ◌*◌, ◌≤◌, length, drop}
use Rattle.fmt.specs.checked.Check.{rows_in}
use Rattle.laws.specs.answer.Fronts.{ArmsFront, Same, Through}
use Rattle.print.proofs.answers.+arm_arms_statement_statements.Given as goal

abbrev pub decreases-statements : goal.decreases-statements
decreases-statements l = 4 * (length l.words.now - l.at) + 3

abbrev pub decreases-statement : goal.decreases-statement
decreases-statement l = 4 * (length l.words.now - l.at) + 2

abbrev pub decreases-arms : goal.decreases-arms
decreases-arms l = 4 * (length l.words.now - l.at) + 1

abbrev pub decreases-arm : goal.decreases-arm
decreases-arm l = 4 * (length l.words.now - l.at)

abbrev pub invariant-arms-loop : goal.invariant-arms-loop
invariant-arms-loop l =
    (l.at ≤ l.i) × (l.i ≤ length l.words)
    × Same (ArmsFront (rows_in l.rows) l.bound l.count (drop l.at l.words)) (ArmsFront (rows_in l.rows) l.bound (l.count - l.counter) (drop l.i l.words))

abbrev pub invariant-statements-loop-i : goal.invariant-statements-loop-i
invariant-statements-loop-i l = (l.at ≤ l.i) × (l.i ≤ length l.words) × (l.at + l.count ≤ l.i) × Through (rows_in l.rows) l.words l.at l.count l.i

abbrev pub decreases-statements-loop-i : goal.decreases-statements-loop-i
decreases-statements-loop-i l = length l.words - l.i
