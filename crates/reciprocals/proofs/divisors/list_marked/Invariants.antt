use Rattle.reciprocals.proofs.divisors.Marked.{State}
use Rattle.reciprocals.proofs.divisors.list_marked.Given as goal

abbrev pub invariant-loop-p : goal.invariant-loop-p
invariant-loop-p l = State l.tokens l.scoped l.initial.places l.places l.n l.p
