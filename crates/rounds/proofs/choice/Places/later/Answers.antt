-- `rounds::choice::Places::later` meets its contract. Assumes nothing.
use native.Mathlib.Omega.{arith}
use mathlib.Core.Path.{sym, ◌∙◌}
use Rattle.rounds.proofs.choice.Passing.{place_stands, texts_fit}
use Rattle.rounds.proofs.choice.Leaders.{depth_decides, by_text, itself_not}
use Rattle.rounds.proofs.value_numbers.Sides.{tree_same}
use Rattle.rounds.proofs.choice.Places.later.Goals as goal

pub returns-then-self-place : goal.returns-then-self-place
returns-then-self-place c = (let a = c.args in itself_not a.rows.now a.self.now.tokens.now a.place a.i (tree_same a.self.now.tokens.now a.place a.i c.requires.place_in_bounds.0 c.requires.place_in_bounds.1 (sym (c.requires.worked_out.classes.each a.place (omega arith) c.requires.place_in_bounds.0) ∙ (c.if-self-place.true ∙ c.requires.worked_out.classes.each a.i (omega arith) c.requires.place_in_bounds.1))))

pub before_at-requires : goal.before_at-requires
before_at-requires c = let a = c.args in
    let stands = place_stands a.rows.now a.self.now.tokens.now _ c.requires.worked_out.complete c.requires.writable c.requires.worked_out.fits in
    let fit = texts_fit a.rows.now a.self.now.tokens.now _ c.requires.worked_out.complete c.requires.writable c.requires.worked_out.fits in
    record { stands = (stands a.place c.requires.place_in_bounds.0, stands a.i c.requires.place_in_bounds.1); j_in_bounds = fit a.place a.i c.requires.place_in_bounds.0 c.requires.place_in_bounds.1 }

pub returns-then-a-b : goal.returns-then-a-b
returns-then-a-b c = (let a = c.args in depth_decides a.rows.now a.self.now.tokens.now a.place a.i _ _ (c.requires.worked_out.facts.depth_at a.place c.requires.place_in_bounds.0) (c.requires.worked_out.facts.depth_at a.i c.requires.place_in_bounds.1) c.if-a-b.true)

pub returns-else-a-b : goal.returns-else-a-b
returns-else-a-b c = (let a = c.args in by_text a.rows.now a.self.now.tokens.now a.place a.i _ _ (c.requires.worked_out.facts.depth_at a.place c.requires.place_in_bounds.0) (c.requires.worked_out.facts.depth_at a.i c.requires.place_in_bounds.1) _ c.if-a-b.false c.before_at.ensures)
