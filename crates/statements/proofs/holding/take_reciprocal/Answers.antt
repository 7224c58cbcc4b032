-- `statements::holding::take_reciprocal` meets its contract. Assumes nothing.
use Rattle.statements.proofs.holding.Taking.{reciprocal_taken}
use Rattle.statements.proofs.holding.take_reciprocal.Goals as goal

pub returns : goal.returns
returns c = reciprocal_taken c.args.tokens.now c.args.places.now c.args.first c.requires.ready c.args.j c.requires.j_in_bounds.0 _ _ c.reciprocal.ensures
