-- `rounds::outside::tally` meets its contract. Assumes nothing.
use Rattle.rounds.proofs.outside.Tallying.{tally_ends}
use Rattle.rounds.proofs.outside.tally.Goals as goal

pub returns : goal.returns
returns c = tally_ends c.requires.complete.0 c.requires.complete.1 c.loop-i.invariant.0 c.loop-i-test.false
