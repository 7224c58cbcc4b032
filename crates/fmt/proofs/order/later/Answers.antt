-- `fmt::order::later` meets its contract. Assumes nothing.
use Rattle.std.proofs.Common.{sym, ◌∙◌}
use Rattle.fmt.proofs.order.Comparing.{later_second, later_first}
use Rattle.fmt.proofs.order.later.Goals as goal

pub returns-then-second_is_later : goal.returns-then-second_is_later
returns-then-second_is_later c = c.beginning.ensures ∙ later_second _ _ (sym c.if-second_is_later.true ∙ c.second_is_later.ensures)

pub returns-else-second_is_later : goal.returns-else-second_is_later
returns-else-second_is_later c = c.beginning-else-second_is_later.ensures ∙ later_first _ _ (sym c.if-second_is_later.false ∙ c.second_is_later.ensures)
