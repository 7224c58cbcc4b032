-- `statements::holding::hold_all` meets its contract: the settled trees, and after them the reciprocals. Assumes nothing.
use native.Mathlib.Omega.{arith}
use Rattle.statements.proofs.holding.Taking.{settled_short}
use Rattle.statements.proofs.holding.Gathering.{all_held}
use Rattle.statements.proofs.holding.hold_all.Goals as goal

pub hold_reciprocals-requires : goal.hold_reciprocals-requires
hold_reciprocals-requires c = (c.requires.0, omega (arith, c.settle_all-n.ensures.value, settled_short c.args.tokens.now c.args.places.now c.args.first c.requires.0))

pub returns-clause-value : goal.returns-clause-value
returns-clause-value c = (all_held c.args.tokens.now c.args.places.now c.args.first _ _ _ _ _ c.settle_all-n.ensures.value c.settle_all-n.ensures.work_after c.hold_reciprocals.ensures.value c.hold_reciprocals.ensures.work_after).0

pub returns-clause-work_after : goal.returns-clause-work_after
returns-clause-work_after c = (all_held c.args.tokens.now c.args.places.now c.args.first _ _ _ _ _ c.settle_all-n.ensures.value c.settle_all-n.ensures.work_after c.hold_reciprocals.ensures.value c.hold_reciprocals.ensures.work_after).1
