use Rattle.std.proofs.Common.{◌-◌, ◌≤◌, length, drop}
use Rattle.fmt.specs.checked.Check.{rows_in}
use Rattle.laws.specs.answer.Fronts.{ValuesFront, Same}
use Rattle.print.proofs.answers.values.Given as goal

abbrev pub invariant-loop : goal.invariant-loop
invariant-loop l =
    (l.at ≤ l.i) × (l.i ≤ length l.words)
    × Same (ValuesFront (rows_in l.rows) 35 l.count (drop l.at l.words)) (ValuesFront (rows_in l.rows) 35 (l.count - l.counter) (drop l.i l.words))
