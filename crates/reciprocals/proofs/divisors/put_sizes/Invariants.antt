use Rattle.reciprocals.proofs.divisors.Sizes.{Putting}
use Rattle.reciprocals.proofs.divisors.put_sizes.Given as goal

abbrev pub invariant-loop-place : goal.invariant-loop-place
invariant-loop-place l = Putting l.tokens l.list l.initial.sizes l.sizes l.place-index
