-- `statements::Scope::order_all` meets its contract. Assumes nothing.
use Rattle.statements.proofs.Marking.{counted}
use Rattle.statements.proofs.Scope.order_all.Goals as goal

pub order_wide-requires-clause-count_value : goal.order_wide-requires-clause-count_value
order_wide-requires-clause-count_value c = (counted c.requires.prepared, c.requires.in_bounds)

pub order_few-requires-clause-count_value : goal.order_few-requires-clause-count_value
order_few-requires-clause-count_value c = (counted c.requires.prepared, c.requires.in_bounds)
