-- `rounds::choice::with_arms` meets its contract. Assumes nothing.
use Rattle.rounds.proofs.choice.Forms.{by_switch}
use Rattle.rounds.proofs.choice.with_arms.Goals as goal

pub returns-then-scoped : goal.returns-then-scoped
returns-then-scoped c = rw c.if-scoped.true (by_switch _ _ c.has_switch.ensures)
