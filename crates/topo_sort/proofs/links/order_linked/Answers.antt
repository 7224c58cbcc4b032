-- `topo_sort::links::order_linked` meets its contract. Assumes nothing.
use Rattle.topo_sort.proofs.links.Following.{linked}
use Rattle.topo_sort.proofs.links.order_linked.Goals as goal

pub returns : goal.returns
returns c = λ needs l. linked needs c.args.count c.args.taken.now _ _ (c.take_linked-n.ensures needs l) _ c.all_taken.ensures
