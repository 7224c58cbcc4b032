use Rattle.reciprocals.proofs.divisors.Places.{State}
use Rattle.reciprocals.proofs.divisors.list.Given as goal

abbrev pub invariant-loop-p : goal.invariant-loop-p
invariant-loop-p l = State l.tokens l.initial.places l.places l.n l.p
