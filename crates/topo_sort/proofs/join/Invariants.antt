use Rattle.topo_sort.proofs.Loops.{Joining}
use Rattle.topo_sort.proofs.join.Given as goal

abbrev pub invariant-loop-j : goal.invariant-loop-j
invariant-loop-j l = Joining l.needs l.count l.i l.initial.waiting l.initial.stack l.top l.waiting l.stack l.t l.j
