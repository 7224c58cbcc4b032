use Rattle.reciprocals.proofs.final.Rows.{tree_let, tree_result}
use Rattle.cse_flat.proofs.ending.tree_of.Goals as goal

pub returns-then-q-taken : goal.returns-then-q-taken
returns-then-q-taken c = tree_let c.args.taken.now c.args.trees.now.results c.args.q c.if-q-taken.true

pub returns-else-q-taken : goal.returns-else-q-taken
returns-else-q-taken c = tree_result c.args.taken.now c.args.trees.now.results c.args.q c.if-q-taken.false
