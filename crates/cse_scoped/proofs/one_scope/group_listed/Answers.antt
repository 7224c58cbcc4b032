use Rattle.std.specs.Prelude.{Err}
use mathlib.Core.Path.{ap}
-- `cse_scoped::one_scope::group_listed` meets its contract. Assumes nothing.
use mathlib.Core.Path.{sym, ◌∙◌}
use Rattle.fusion.proofs.groups.Told.{groups_all, not_broken, not_full}
use Rattle.cse_scoped.proofs.one_scope.Leaves.{complete_so, stand_so, grouping_so}
use Rattle.cse_scoped.proofs.one_scope.group_listed.Goals as goal

pub returns : goal.returns
returns c = let a = c.args in grouping_so a.held.now a.places.now c.requires.t.0 c.requires.t.1 (groups_all a.held.now a.places.now a.members.now a.ends.now (complete_so a.held.now c.requires.t.0) (stand_so a.held.now a.places.now c.requires.t.1) c.requires.places_in_bounds.0 c.requires.places_in_bounds.1 _ _ _ (sym c.in-Ok.is ∙ c.group_switches.ensures.0) c.group_switches.ensures.1 c.group_switches.ensures.2)

pub unreachable-requires : goal.unreachable-requires
unreachable-requires c = let a = c.args in not_broken a.held.now a.places.now a.members.now a.ends.now (complete_so a.held.now c.requires.t.0) (stand_so a.held.now a.places.now c.requires.t.1) c.requires.places_in_bounds.0 c.requires.places_in_bounds.1 (sym (c.in-Err-Broken.is ∙ ap Err c.in-Err-Broken.field-0-is) ∙ c.group_switches.ensures.0)

pub unreachable-requires-in-Err-NoRoom : goal.unreachable-requires-in-Err-NoRoom
unreachable-requires-in-Err-NoRoom c = let a = c.args in not_full a.held.now a.places.now a.members.now a.ends.now (complete_so a.held.now c.requires.t.0) (stand_so a.held.now a.places.now c.requires.t.1) c.requires.places_in_bounds.0 c.requires.places_in_bounds.1 (sym (c.in-Err-NoRoom.is ∙ ap Err c.in-Err-NoRoom.field-0-is) ∙ c.group_switches.ensures.0)
