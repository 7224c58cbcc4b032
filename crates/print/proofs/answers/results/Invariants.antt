use Rattle.std.proofs.Common.{◌-◌, ◌≤◌, length, drop}
use Rattle.fmt.specs.checked.Check.{rows_in}
use Rattle.laws.specs.answer.Fronts.{Results}
use Rattle.print.proofs.answers.results.Given as goal

abbrev pub invariant-loop-i : goal.invariant-loop-i
invariant-loop-i l =
    (l.at ≤ l.i) × (l.i ≤ length l.words) × (Results (rows_in l.rows) (drop l.at l.words) → Results (rows_in l.rows) (drop l.i l.words))
    × (Results (rows_in l.rows) (drop l.i l.words) → Results (rows_in l.rows) (drop l.at l.words))

abbrev pub decreases-loop-i : goal.decreases-loop-i
decreases-loop-i l = length l.words - l.i
