-- `statements::holding::whole` meets its contract: the tests decide. Assumes nothing.
use Rattle.statements.proofs.holding.Ends.{not_whole, whole_told}
use Rattle.statements.proofs.holding.whole.Goals as goal

pub returns-then-is_some : goal.returns-then-is_some
returns-then-is_some c = whole_told c.args.tokens.now c.args.places.now _ _ c.count_trees.ensures c.is_some.ensures c.if-is_some.true _ c.all_there.ensures

pub returns-else-is_some : goal.returns-else-is_some
returns-else-is_some c = not_whole c.args.tokens.now c.args.places.now _ _ c.count_trees.ensures c.is_some.ensures c.if-is_some.false
