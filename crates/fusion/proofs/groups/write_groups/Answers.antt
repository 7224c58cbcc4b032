-- `fusion::groups::write_groups` meets its contract: the groups so far stand in front. Assumes nothing.
use native.Mathlib.Omega.{arith}
use mathlib.Core.Path.{sym, ◌∙◌}
use Rattle.fusion.proofs.groups.Groups.{starts, count_few, ends_long, turn_none, group_room, turn_one, groups_end}
use Rattle.fusion.proofs.groups.write_groups.Goals.{then-first_joined-i, else-first_joined-i}
use Rattle.fusion.proofs.groups.write_groups.Goals as goal

pub loop-i-init : goal.loop-i-init
loop-i-init c = starts c.args.tokens.now c.args.places.now c.args.members.now c.args.ends.now

pub write_group-at-requires-clause-i_in_bounds : goal.write_group-at-requires-clause-i_in_bounds
write_group-at-requires-clause-i_in_bounds c = group_room c.args.tokens.now c.args.places.now c.loop-i.invariant c.loop-i-test.true (sym c.first_joined.ensures ∙ c.if-first_joined-i.true) c.requires.places_in_bounds.0

pub offset_bounds-ends-count : goal.offset_bounds-ends-count
offset_bounds-ends-count c = omega (arith, count_few c.args.tokens.now c.args.places.now c.loop-i.invariant, ends_long c.args.tokens.now c.args.places.now c.loop-i.invariant c.requires.places_in_bounds.1, c.loop-i-test.true, c.requires.places_in_bounds.1, c.well_formed)

pub bounds-ends-count : goal.bounds-ends-count
bounds-ends-count c = omega (arith, count_few c.args.tokens.now c.args.places.now c.loop-i.invariant, ends_long c.args.tokens.now c.args.places.now c.loop-i.invariant c.requires.places_in_bounds.1, c.loop-i-test.true, c.requires.places_in_bounds.1)

pub overflow_add-count : goal.overflow_add-count
overflow_add-count c = omega (arith, count_few c.args.tokens.now c.args.places.now c.loop-i.invariant, c.loop-i-test.true, c.well_formed)

pub loop-i-preserved : goal.loop-i-preserved
loop-i-preserved c = elim c.if-first_joined-i.branch [
  | then-first_joined-i w ↦ rw (w.members-is, w.ends-is, w.count-is, w.at-is) (turn_one c.args.tokens.now c.args.places.now c.loop-i.invariant c.loop-i-test.true (sym c.first_joined.ensures ∙ w.if-first_joined-i.true) w.write_group-at.ensures c.requires.places_in_bounds.1)
  | else-first_joined-i w ↦ rw (w.members-is, w.ends-is, w.count-is, w.at-is) (turn_none c.args.tokens.now c.args.places.now c.loop-i.invariant c.loop-i-test.true (λ e. w.if-first_joined-i.false (c.first_joined.ensures ∙ e)))
]

pub returns : goal.returns
returns c = groups_end c.args.tokens.now c.args.places.now c.loop-i.invariant c.loop-i-test.false
