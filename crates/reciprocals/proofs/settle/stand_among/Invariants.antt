use Rattle.reciprocals.proofs.settle.Missing.{Decides}
use Rattle.reciprocals.proofs.settle.stand_among.Given as goal

abbrev pub invariant-loop-i : goal.invariant-loop-i
invariant-loop-i l = Decides l.divisor l.words l.i
