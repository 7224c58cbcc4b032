use Rattle.topo_sort.proofs.treelist.Listing.{State}
use Rattle.topo_sort.proofs.treelist.list.Given as goal

abbrev pub invariant-loop-n : goal.invariant-loop-n
invariant-loop-n l = State l.tokens l.initial.starts l.count l.starts l.n l.at
