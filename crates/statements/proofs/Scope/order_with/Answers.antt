-- `statements::Scope::order_with` meets its contract. Assumes nothing.
use Rattle.statements.proofs.Marking.{ordered_so}
use Rattle.statements.proofs.Scope.order_with.Goals as goal

pub returns : goal.returns
returns c = let a = c.args in
    ordered_so c.requires.prepared _ a.waiting.now a.stack.now a.taken.now a.count c.requires.count_value.0 c.requires.tokens_in_bounds.1 c.requires.tokens_in_bounds.2 c.requires.count_value.1 a.bits.now c.requires.bits_value
    c.mark_stmts.ensures _ _ _ _
    c.order.ensures
