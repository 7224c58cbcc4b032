use Rattle.topo_sort.proofs.reads.Turns.{State}
use Rattle.topo_sort.proofs.reads.mark_needs.Given as goal

abbrev pub invariant-loop-w : goal.invariant-loop-w
invariant-loop-w l = State l.tokens l.row l.initial.table l.table l.all l.w-index
