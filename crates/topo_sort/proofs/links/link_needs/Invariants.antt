use Rattle.topo_sort.proofs.links.Making.{Reading}
use Rattle.topo_sort.proofs.links.link_needs.Given as goal

abbrev pub invariant-loop-w : goal.invariant-loop-w
invariant-loop-w l = Reading l.words l.j l.n l.initial.heads l.initial.links l.w-index l.m l.heads l.links
