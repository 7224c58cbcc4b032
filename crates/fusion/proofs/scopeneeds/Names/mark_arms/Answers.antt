-- `fusion::scopeneeds::Names::mark_arms` meets its contract: what the arms so far read, with those to come, is the whole. Assumes nothing.
use mathlib.Core.Path.{sym, ◌∙◌}
use lib.ListN.{get_or}
use Rattle.fusion.proofs.Tests.{uncounted_by, counted_by}
use Rattle.fusion.proofs.scopeneeds.Arms.{inside_both, stand_switches, switches_at, arm_turn, arm_ends, broken, no_switches, all_marked}
use Rattle.fusion.proofs.scopeneeds.Names.mark_arms.Goals.{then-is_none-via-then-is_none, then-is_none-via-else-is_none+then-not-all_stand}
use Rattle.fusion.proofs.scopeneeds.Names.mark_arms.Goals as goal

pub returns-then-is_none : goal.returns-then-is_none
returns-then-is_none c = elim c.then-is_none.branch [
  | then-is_none-via-then-is_none w ↦ broken c.args.self.now.first c.args.self.now.lets c.args.self.now.numbers.now c.args.self.now.ends.now c.args.tokens.now c.args.group.now c.args.row c.args.table.now (uncounted_by c.args.tokens.now _ _ c.count_trees.ensures c.is_none.ensures w.if-is_none.true)
  | then-is_none-via-else-is_none+then-not-all_stand w ↦ no_switches c.args.self.now.first c.args.self.now.lets c.args.self.now.numbers.now c.args.self.now.ends.now c.args.tokens.now c.args.group.now c.args.row c.args.table.now (counted_by c.args.tokens.now _ _ c.count_trees.ensures c.is_none.ensures w.if-is_none.false) (sym (stand_switches c.args.tokens.now c.args.group.now) ∙ (sym w.all_stand.ensures ∙ w.if-not-all_stand.true))
]

pub mark_switch-requires : goal.mark_switch-requires
mark_switch-requires c = ((counted_by c.args.tokens.now _ _ c.count_trees.ensures c.is_none.ensures c.if-is_none.false), inside_both c.args.tokens.now (get_or c.args.group.now c.loop-place.place-index 0) (switches_at c.args.tokens.now c.args.group.now c.loop-place.place-index (sym (stand_switches c.args.tokens.now c.args.group.now) ∙ (sym c.all_stand.ensures ∙ c.if-not-all_stand.false)) c.loop-place-test.true))

pub loop-place-preserved : goal.loop-place-preserved
loop-place-preserved c = arm_turn c.args.self.now.first c.args.self.now.lets c.args.self.now.numbers.now c.args.self.now.ends.now c.args.tokens.now c.args.group.now c.args.row c.args.table.now c.loop-place.invariant c.loop-place-test.true _ c.mark_switch.ensures

pub returns : goal.returns
returns c = all_marked c.args.self.now.first c.args.self.now.lets c.args.self.now.numbers.now c.args.self.now.ends.now c.args.tokens.now c.args.group.now c.args.row c.args.table.now (counted_by c.args.tokens.now _ _ c.count_trees.ensures c.is_none.ensures c.if-is_none.false) (sym (stand_switches c.args.tokens.now c.args.group.now) ∙ (sym c.all_stand.ensures ∙ c.if-not-all_stand.false)) _ (arm_ends c.args.self.now.first c.args.self.now.lets c.args.self.now.numbers.now c.args.self.now.ends.now c.args.tokens.now c.args.group.now c.args.row c.args.table.now c.loop-place.invariant c.loop-place-test.false)
