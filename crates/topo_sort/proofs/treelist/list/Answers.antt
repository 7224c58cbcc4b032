-- `topo_sort::treelist::list` meets its contract: the places so far stand in front. Assumes nothing.
use Rattle.topo_sort.proofs.treelist.Listing.{begins, there, turn, ends}
use Rattle.topo_sort.proofs.treelist.list.Goals as goal

pub loop-n-init : goal.loop-n-init
loop-n-init c = begins c.args.tokens.now c.args.starts.now c.args.count c.requires.0 c.requires.1

pub tree_end-at-requires : goal.tree_end-at-requires
tree_end-at-requires c = there c.args.tokens.now c.args.starts.now c.args.count c.requires.0 c.requires.1 c.loop-n.invariant c.loop-n-test.true

pub loop-n-preserved : goal.loop-n-preserved
loop-n-preserved c = turn c.args.tokens.now c.args.starts.now c.args.count c.requires.0 c.requires.1 c.loop-n.invariant c.loop-n-test.true _ c.tree_end-at.ensures

pub returns : goal.returns
returns c = ends c.args.tokens.now c.args.starts.now c.args.count c.requires.0 c.requires.1 c.loop-n.invariant c.loop-n-test.false
