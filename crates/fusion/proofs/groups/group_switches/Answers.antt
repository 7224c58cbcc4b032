-- `fusion::groups::group_switches` meets its contract. Assumes nothing.
use mathlib.Core.Path.{sym, ◌∙◌}
use Rattle.fusion.proofs.Tests.{uncounted_by, counted_by}
use Rattle.fusion.proofs.groups.Giving.{no_trees, no_switch, few_members, few_ends, grouped}
use Rattle.fusion.proofs.groups.group_switches.Goals.{then-is_none-via-then-is_none, then-is_none-via-else-is_none+then-not-all_stand, then-members-places-via-then-members-places, then-members-places-via-else-members-places+then-ends-places}
use Rattle.fusion.proofs.groups.group_switches.Goals as goal

pub returns-then-is_none : goal.returns-then-is_none
returns-then-is_none c = elim c.then-is_none.branch [
  | then-is_none-via-then-is_none w ↦ no_trees c.args.tokens.now c.args.places.now c.args.members.now c.args.ends.now (uncounted_by c.args.tokens.now _ _ c.count_trees.ensures c.is_none.ensures w.if-is_none.true)
  | then-is_none-via-else-is_none+then-not-all_stand w ↦ no_switch c.args.tokens.now c.args.places.now c.args.members.now c.args.ends.now (counted_by c.args.tokens.now _ _ c.count_trees.ensures c.is_none.ensures w.if-is_none.false) (sym w.if-not-all_stand.true ∙ w.all_stand.ensures)
]

pub returns-then-members-places : goal.returns-then-members-places
returns-then-members-places c = elim c.then-members-places.branch [
  | then-members-places-via-then-members-places w ↦ few_members c.args.tokens.now c.args.places.now c.args.members.now c.args.ends.now (counted_by c.args.tokens.now _ _ c.count_trees.ensures c.is_none.ensures c.if-is_none.false) (sym c.if-not-all_stand.false ∙ c.all_stand.ensures) w.if-members-places.true
  | then-members-places-via-else-members-places+then-ends-places w ↦ few_ends c.args.tokens.now c.args.places.now c.args.members.now c.args.ends.now (counted_by c.args.tokens.now _ _ c.count_trees.ensures c.is_none.ensures c.if-is_none.false) (sym c.if-not-all_stand.false ∙ c.all_stand.ensures) w.if-ends-places.true
]

pub write_groups-requires-clause-complete : goal.write_groups-requires-clause-complete
write_groups-requires-clause-complete c = (counted_by c.args.tokens.now _ _ c.count_trees.ensures c.is_none.ensures c.if-is_none.false)

pub returns : goal.returns
returns c = grouped c.args.tokens.now c.args.places.now c.args.members.now c.args.ends.now (counted_by c.args.tokens.now _ _ c.count_trees.ensures c.is_none.ensures c.if-is_none.false) (sym c.if-not-all_stand.false ∙ c.all_stand.ensures) c.if-members-places.false c.if-ends-places.false _ _ _ c.write_groups.ensures
