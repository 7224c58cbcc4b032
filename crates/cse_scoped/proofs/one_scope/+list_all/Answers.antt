use Rattle.std.specs.Prelude.{Err}
use mathlib.Core.Path.{ap}
-- `cse_scoped::one_scope::list_all` meets its contract. It falls by the marks that are missing: it calls itself only with as many as the work area has words. Assumes nothing.
use native.Mathlib.Omega.{arith}
use mathlib.Core.Path.{sym, ◌∙◌}
use lib.ListN.{length}
use Rattle.fusion.proofs.switches.Told.{front_is, listed_all, not_broken, not_full, more_than_lent}
use Rattle.cse_scoped.proofs.one_scope.Leaves.{complete_so, listed_in}
use Rattle.cse_scoped.proofs.one_scope.+list_all.Goals as goal

pub returns-in-Ok : goal.returns-in-Ok
returns-in-Ok t c = let a = c.args in let l = listed_all a.held.now (length a.marks.now) a.places.now (complete_so a.held.now c.requires.0) c.if-marks-held.false _ _ (sym c.in-Ok.is ∙ c.list_switches.ensures.0) c.list_switches.ensures.1 in (front_is l, listed_in l)

pub returns-in-Err-TooMany : goal.returns-in-Err-TooMany
returns-in-Err-TooMany t c = let a = c.args in omega (arith, c.list_switches.auto.places, more_than_lent a.held.now (length a.marks.now) a.places.now (complete_so a.held.now c.requires.0) c.if-marks-held.false (sym (c.in-Err-TooMany.is ∙ ap Err c.in-Err-TooMany.field-0-is) ∙ c.list_switches.ensures.0))

pub unreachable-requires : goal.unreachable-requires
unreachable-requires t c = let a = c.args in not_broken a.held.now (length a.marks.now) a.places.now (complete_so a.held.now c.requires.0) c.if-marks-held.false (sym (c.in-Err-Broken.is ∙ ap Err c.in-Err-Broken.field-0-is) ∙ c.list_switches.ensures.0)

pub unreachable-requires-in-Err-NoRoom : goal.unreachable-requires-in-Err-NoRoom
unreachable-requires-in-Err-NoRoom t c = let a = c.args in not_full a.held.now (length a.marks.now) a.places.now (complete_so a.held.now c.requires.0) c.if-marks-held.false (sym (c.in-Err-NoRoom.is ∙ ap Err c.in-Err-NoRoom.field-0-is) ∙ c.list_switches.ensures.0)
