-- `fusion::groups::arms_fit` meets its contract: what is left of the room decides. Assumes nothing.
use mathlib.Core.Path.{refl}
use Rattle.fusion.proofs.groups.Armed.{armed_one}
use Rattle.fusion.proofs.groups.Arms.{from_within, too_long, less_left, fits_so}
use Rattle.fusion.proofs.groups.arms_fit.Goals as goal

pub arm_start-from-requires : goal.arm_start-from-requires
arm_start-from-requires c = (c.requires.0, armed_one c.args.tokens.now c.args.arm c.args.group.now c.loop-place.place-index c.requires.1 c.loop-place-test.true)

pub after_tree-to-requires : goal.after_tree-to-requires
after_tree-to-requires c = (c.requires.0, from_within c.args.tokens.now c.requires.0 c.args.group.now c.args.arm c.requires.1 c.loop-place.place-index c.loop-place-test.true _ _ c.arm_start-from.ensures refl)

pub returns-then-to-from : goal.returns-then-to-from
returns-then-to-from c = too_long c.args.tokens.now c.requires.0 c.args.group.now c.args.arm c.requires.1 c.args.room c.loop-place.left c.loop-place.place-index c.loop-place-test.true _ _ c.arm_start-from.ensures c.after_tree-to.ensures c.loop-place.invariant c.if-to-from.true

pub loop-place-preserved : goal.loop-place-preserved
loop-place-preserved c = less_left c.args.tokens.now c.requires.0 c.args.group.now c.args.arm c.requires.1 c.args.room c.loop-place.left c.loop-place.place-index c.loop-place-test.true _ _ c.arm_start-from.ensures c.after_tree-to.ensures c.loop-place.invariant c.if-to-from.false

pub returns : goal.returns
returns c = fits_so c.args.tokens.now c.requires.0 c.args.group.now c.args.arm c.requires.1 c.args.room c.loop-place.left c.loop-place.place-index c.loop-place-test.false c.loop-place.invariant
