-- `fusion::groups::copy_column` meets its contract: what is wrong is told before anything is written. Assumes nothing.
use mathlib.Core.Path.{sym, ◌∙◌}
use Rattle.fusion.proofs.Tests.{uncounted_by, counted_by}
use Rattle.fusion.proofs.groups.Ends.{broken_trees, arm_missing, too_many, copied}
use Rattle.fusion.proofs.groups.copy_column.Goals.{then-is_none-via-then-is_none, then-is_none-via-else-is_none+then-not-have_arm}
use Rattle.fusion.proofs.groups.copy_column.Goals as goal

pub returns-then-is_none : goal.returns-then-is_none
returns-then-is_none c = elim c.then-is_none.branch [
  | then-is_none-via-then-is_none w ↦ broken_trees c.args.tokens.now c.args.group.now c.args.arm c.args.out.now (uncounted_by c.args.tokens.now _ _ c.count_trees.ensures c.is_none.ensures w.if-is_none.true)
  | then-is_none-via-else-is_none+then-not-have_arm w ↦ arm_missing c.args.tokens.now c.args.group.now c.args.arm c.args.out.now (counted_by c.args.tokens.now _ _ c.count_trees.ensures c.is_none.ensures w.if-is_none.false) _ w.have_arm.ensures w.if-not-have_arm.true
]

pub arms_fit-requires : goal.arms_fit-requires
arms_fit-requires c = ((counted_by c.args.tokens.now _ _ c.count_trees.ensures c.is_none.ensures c.if-is_none.false), (sym c.have_arm.ensures ∙ c.if-not-have_arm.false))

pub returns-then-not-arms_fit : goal.returns-then-not-arms_fit
returns-then-not-arms_fit c = too_many c.args.tokens.now c.args.group.now c.args.arm c.args.out.now (counted_by c.args.tokens.now _ _ c.count_trees.ensures c.is_none.ensures c.if-is_none.false) (sym c.have_arm.ensures ∙ c.if-not-have_arm.false) _ c.arms_fit.ensures (c.if-not-arms_fit.true)

pub write_arms-requires-clause-complete : goal.write_arms-requires-clause-complete
write_arms-requires-clause-complete c = ((counted_by c.args.tokens.now _ _ c.count_trees.ensures c.is_none.ensures c.if-is_none.false), (sym c.have_arm.ensures ∙ c.if-not-have_arm.false))

pub returns : goal.returns
returns c = copied c.args.tokens.now c.args.group.now c.args.arm c.args.out.now (counted_by c.args.tokens.now _ _ c.count_trees.ensures c.is_none.ensures c.if-is_none.false) (sym c.have_arm.ensures ∙ c.if-not-have_arm.false) _ c.arms_fit.ensures (c.if-not-arms_fit.false) _ c.write_arms.ensures.value _ c.write_arms.ensures.out_after
