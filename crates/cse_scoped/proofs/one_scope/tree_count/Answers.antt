-- `cse_scoped::one_scope::tree_count` meets its contract. Assumes nothing.
use Rattle.cse_scoped.proofs.one_scope.Leaves.{counted, uncounted}
use Rattle.cse_scoped.proofs.one_scope.tree_count.Goals as goal

pub unreachable-requires : goal.unreachable-requires
unreachable-requires c = let a = c.args in uncounted a.tokens.now c.requires c.count_trees.result c.count_trees.ensures c.in_default.is

pub returns : goal.returns
returns c = let a = c.args in counted a.tokens.now c.count_trees.result c.count_trees.ensures _ c.in-Some.is
