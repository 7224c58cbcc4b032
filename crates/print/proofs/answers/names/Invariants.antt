use Rattle.laws.specs.answer.Fronts.{Named}
use Rattle.print.proofs.answers.names.Given as goal

abbrev pub invariant-loop-i : goal.invariant-loop-i
invariant-loop-i l = Named l.words l.at l.i
