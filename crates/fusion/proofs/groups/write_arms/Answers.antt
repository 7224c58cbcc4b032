-- `fusion::groups::write_arms` meets its contract: what is still to be written, over what is, gives all. Assumes nothing.
use native.Mathlib.Omega.{arith}
use mathlib.Core.Path.{refl}
use Rattle.fusion.proofs.groups.Armed.{armed_one}
use Rattle.fusion.proofs.groups.Arms.{from_within, to_within, written_turns, written_ends}
use Rattle.fusion.proofs.groups.write_arms.Goals as goal

pub arm_start-from-requires : goal.arm_start-from-requires
arm_start-from-requires c = (c.requires.complete.0, armed_one c.args.tokens.now c.args.arm c.args.group.now c.loop-place.place-index c.requires.complete.1 c.loop-place-test.true)

pub after_tree-to-requires : goal.after_tree-to-requires
after_tree-to-requires c = (c.requires.complete.0, from_within c.args.tokens.now c.requires.complete.0 c.args.group.now c.args.arm c.requires.complete.1 c.loop-place.place-index c.loop-place-test.true _ _ c.arm_start-from.ensures refl)

pub offset_bounds-tokens-from : goal.offset_bounds-tokens-from
offset_bounds-tokens-from c = omega (arith, c.well_formed, from_within c.args.tokens.now c.requires.complete.0 c.args.group.now c.args.arm c.requires.complete.1 c.loop-place.place-index c.loop-place-test.true _ _ c.arm_start-from.ensures c.after_tree-to.ensures)

pub slice_bounds-put-end : goal.slice_bounds-put-end
slice_bounds-put-end c = to_within c.args.tokens.now c.requires.complete.0 c.args.group.now c.args.arm c.requires.complete.1 c.loop-place.place-index c.loop-place-test.true _ _ c.arm_start-from.ensures c.after_tree-to.ensures

pub loop-place-preserved : goal.loop-place-preserved
loop-place-preserved c = written_turns c.args.tokens.now c.requires.complete.0 c.args.group.now c.args.arm c.requires.complete.1 c.args.out.now c.loop-place.out _ c.loop-place.n c.loop-place.place-index c.loop-place-test.true _ _ c.arm_start-from.ensures c.after_tree-to.ensures c.loop-place.invariant c.put.ensures

pub returns-clause-value : goal.returns-clause-value
returns-clause-value c = (written_ends c.args.tokens.now c.requires.complete.0 c.args.group.now c.args.arm c.requires.complete.1 c.args.out.now c.loop-place.out c.loop-place.n c.loop-place.place-index c.requires.arm_in_bounds c.loop-place-test.false c.loop-place.invariant).0

pub returns-clause-out_after : goal.returns-clause-out_after
returns-clause-out_after c = (written_ends c.args.tokens.now c.requires.complete.0 c.args.group.now c.args.arm c.requires.complete.1 c.args.out.now c.loop-place.out c.loop-place.n c.loop-place.place-index c.requires.arm_in_bounds c.loop-place-test.false c.loop-place.invariant).1
