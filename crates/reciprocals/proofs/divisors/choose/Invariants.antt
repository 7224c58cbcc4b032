use Rattle.reciprocals.proofs.divisors.Choosing.{Choosing}
use Rattle.reciprocals.proofs.divisors.choose.Given as goal

abbrev pub invariant-loop-i : goal.invariant-loop-i
invariant-loop-i l = Choosing l.tokens l.all l.outside l.initial.places l.places l.n l.i
