use Rattle.reciprocals.proofs.divisors.Counting.{Counting}
use Rattle.reciprocals.proofs.divisors.count_equal.Given as goal

abbrev pub invariant-loop-place : goal.invariant-loop-place
invariant-loop-place l = Counting l.tokens l.list l.q l.count l.place-index
