use native.Mathlib.Omega.{arith}
use lib.ListN.{length-set}
use Rattle.reciprocals.proofs.final.Rows.{entry_long}
use Rattle.reciprocals.proofs.final.Writing.{tree_there}
use Rattle.cse_flat.proofs.ending.Entering.{entry_has, entry_put}
use Rattle.cse_flat.proofs.ending.write_entry.Goals as goal

pub bounds-table-at : goal.bounds-table-at
bounds-table-at c = let t = c.args.trees.now in omega (arith, entry_long t.results t.places.now t.tokens.now c.args.taken.now c.args.q, c.requires.q_in_bounds.1)

pub put_tree-requires-clause-i_in_bounds : goal.put_tree-requires-clause-i_in_bounds
put_tree-requires-clause-i_in_bounds c = (omega (arith, c.tree_of.ensures, tree_there c.args.trees.now.ready c.requires.positions c.args.q c.requires.q_in_bounds.0), c.requires.tokens_in_bounds)

pub put_tree-requires-clause-at_in_bounds : goal.put_tree-requires-clause-at_in_bounds
put_tree-requires-clause-at_in_bounds c = let t = c.args.trees.now in
    omega (arith, entry_has t.results t.places.now t.tokens.now c.args.taken.now c.args.q _ c.tree_of.ensures, c.requires.q_in_bounds.1, length-set c.args.table.now c.args.at c.row_of.result)

pub returns : goal.returns
returns c =
    let t = c.args.trees.now in
    let e = entry_has t.results t.places.now t.tokens.now c.args.taken.now c.args.q _ c.tree_of.ensures in
    (omega (arith, e, c.put_tree.ensures.0), entry_put t.results t.places.now t.tokens.now c.args.taken.now c.args.q _ c.tree_of.ensures _ c.args.at c.args.table.now _ c.row_of.ensures c.requires.q_in_bounds.1 c.put_tree.ensures.1)
