use Rattle.words.proofs.copying.Putting.{Putting}
use Rattle.words.proofs.copying.put.Given as goal

abbrev pub invariant-loop-k : goal.invariant-loop-k
invariant-loop-k l = Putting l.words l.initial.out l.at l.out l.k
