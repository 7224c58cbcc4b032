-- `rounds::choice::Places::outside_uses` meets its contract. Assumes nothing.
use Rattle.rounds.proofs.choice.Leaders.{counted_so, counted_not}
use Rattle.rounds.proofs.choice.Places.outside_uses.Goals as goal

pub returns-then-self : goal.returns-then-self
returns-then-self c = counted_so c.args.self.now.scoped _ _ c.if-self.true

pub returns-else-self : goal.returns-else-self
returns-else-self c = counted_not c.args.self.now.scoped _ _ c.if-self.false
