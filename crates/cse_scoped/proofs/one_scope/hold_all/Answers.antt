use Rattle.std.specs.Prelude.{Err}
use mathlib.Core.Path.{◌∙◌, ap}
-- `cse_scoped::one_scope::hold_all` meets its contract. Assumes nothing.
use Rattle.cse_scoped.proofs.one_scope.Leaves.{held_words_are, held_too_many, held_never_broken, held_never_full}
use Rattle.cse_scoped.proofs.one_scope.hold_all.Goals as goal

pub returns-in-Ok : goal.returns-in-Ok
returns-in-Ok c = let a = c.args in held_words_are a.tokens.now a.places.now a.number a.held.now c.requires.t.0 c.requires.t.1 c.requires.tokens_len_bound.0 c.requires.tokens_len_bound.1 c.requires.tokens_len_bound.2 c.requires.tokens_len_bound.3 c.hold.result _ c.hold.ensures _ c.in-Ok.is

pub returns-in-Err-TooMany : goal.returns-in-Err-TooMany
returns-in-Err-TooMany c = let a = c.args in held_too_many a.tokens.now a.places.now a.number a.held.now c.requires.t.0 c.requires.t.1 c.requires.tokens_len_bound.0 c.requires.tokens_len_bound.1 c.requires.tokens_len_bound.2 c.requires.tokens_len_bound.3 c.hold.result _ c.hold.ensures (c.in-Err-TooMany.is ∙ ap Err c.in-Err-TooMany.field-0-is)

pub unreachable-requires : goal.unreachable-requires
unreachable-requires c = let a = c.args in held_never_broken a.tokens.now a.places.now a.number a.held.now c.requires.t.0 c.requires.t.1 c.requires.tokens_len_bound.0 c.requires.tokens_len_bound.1 c.requires.tokens_len_bound.2 c.requires.tokens_len_bound.3 c.hold.result _ c.hold.ensures (c.in-Err-Broken.is ∙ ap Err c.in-Err-Broken.field-0-is)

pub unreachable-requires-in-Err-NoRoom : goal.unreachable-requires-in-Err-NoRoom
unreachable-requires-in-Err-NoRoom c = let a = c.args in held_never_full a.tokens.now a.places.now a.number a.held.now c.requires.t.0 c.requires.t.1 c.requires.tokens_len_bound.0 c.requires.tokens_len_bound.1 c.requires.tokens_len_bound.2 c.requires.tokens_len_bound.3 c.hold.result _ c.hold.ensures (c.in-Err-NoRoom.is ∙ ap Err c.in-Err-NoRoom.field-0-is)
