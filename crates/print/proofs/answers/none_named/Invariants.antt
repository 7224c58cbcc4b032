use Rattle.std.proofs.Common.{◌≡◌, true, take}
use Rattle.fmt.specs.checked.Check.{rows_in}
use Rattle.laws.specs.answer.First.{none_named}
use Rattle.print.proofs.answers.none_named.Given as goal

abbrev pub invariant-loop-i : goal.invariant-loop-i
invariant-loop-i l = none_named (take l.i (rows_in l.rows)) l.name ≡ true
