-- `statements::Scope::take_tree` meets its contract. Assumes nothing.
use native.Mathlib.Omega.{arith}
use mathlib.Core.Path.{refl, ap}
use lib.ListN.{length}
use Rattle.statements.proofs.Held.{held_complete, held_run_is, settled_run_short, trees_few, places_few}
use Rattle.statements.proofs.Taking.{before_stands, after_stands}
use Rattle.statements.proofs.Scope.take_tree.Goals as goal

pub take_held-requires-clause-complete : goal.take_held-requires-clause-complete
take_held-requires-clause-complete c = (held_complete c.requires.readied.1, c.requires.readied.1.short)

pub take_held-requires-clause-i_in_bounds : goal.take_held-requires-clause-i_in_bounds
take_held-requires-clause-i_in_bounds c = omega (arith, settled_run_short c.requires.readied.1 c.args.i, ap length (held_run_is c.requires.readied.1 c.args.i c.if-i-self.true), c.requires.i_in_bounds.1)

pub returns-then-i-self : goal.returns-then-i-self
returns-then-i-self c = before_stands c.requires.readied.1 c.args.i c.if-i-self.true _ _ c.take_held.ensures

pub take_reciprocal-requires-clause-number_bound : goal.take_reciprocal-requires-clause-number_bound
take_reciprocal-requires-clause-number_bound c = (omega (arith, trees_few c.requires.readied.1, c.requires.readied.1.low), omega (arith, places_few c.requires.readied.1))

pub returns : goal.returns
returns c = after_stands c.requires.readied.1 c.args.i c.if-i-self.false _ refl _ _ c.take_reciprocal.ensures
