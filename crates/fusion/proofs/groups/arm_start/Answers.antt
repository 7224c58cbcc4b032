-- `fusion::groups::arm_start` meets its contract: the place is where arm number a begins. Assumes nothing.
use native.Mathlib.Omega.{arith}
use Rattle.fusion.proofs.groups.Arms.{key_within, first_arm_so, next_arm_so, tree_next, arm_last}
use Rattle.fusion.proofs.groups.arm_start.Goals as goal

pub overflow_add-place : goal.overflow_add-place
overflow_add-place c = omega (arith, c.well_formed, key_within c.args.tokens.now c.requires.0 c.args.place c.args.arm c.requires.1)

pub after_tree-at-requires : goal.after_tree-at-requires
after_tree-at-requires c = (c.requires.0, key_within c.args.tokens.now c.requires.0 c.args.place c.args.arm c.requires.1)

pub loop-init : goal.loop-init
loop-init c = first_arm_so c.args.tokens.now c.requires.0 c.args.place c.args.arm c.requires.1 _ c.after_tree-at.ensures

pub after_tree-at-requires-in-loop : goal.after_tree-at-requires-in-loop
after_tree-at-requires-in-loop c = (c.requires.0, tree_next c.args.tokens.now c.requires.0 c.args.place c.args.arm c.requires.1 c.loop.counter c.loop.at (omega arith) c.loop.invariant)

pub loop-preserved : goal.loop-preserved
loop-preserved c = next_arm_so c.args.tokens.now c.requires.0 c.args.place c.args.arm c.requires.1 c.loop.counter c.loop.at _ c.loop.invariant c.after_tree-at-in-loop.ensures

pub returns : goal.returns
returns c = arm_last c.args.tokens.now c.requires.0 c.args.place c.args.arm c.requires.1 c.loop.counter c.loop.at (omega arith) c.loop-test.false c.loop.invariant
