-- `statements::take_reciprocal` meets its contract. Assumes nothing.
use Rattle.statements.proofs.Taking.{reciprocal_stands}
use Rattle.statements.proofs.take_reciprocal.Goals as goal

pub returns : goal.returns
returns c = reciprocal_stands c.args.tokens.now c.args.places.now c.args.number c.args.j c.requires.complete.1 c.requires.j_in_bounds.0 _ _ c.reciprocal.ensures
