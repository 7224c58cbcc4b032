-- `replace::replace_trees` meets its contract. Assumes nothing.
use Rattle.std.proofs.Common.{length, sym, ◌∙◌, arith}
use Rattle.replace.proofs.Ends.{words_short, target_short, answered, never, by_whole, by_parts, by_endless, target_is}
use Rattle.replace.proofs.replace_trees.Goals as goal
use Rattle.replace.proofs.replace_trees.Goals.{then-places-tokens-via-then-places-tokens, then-places-tokens-via-else-places-tokens+then-places-target}

pub returns-then-places-tokens : goal.returns-then-places-tokens
returns-then-places-tokens c = let a = c.args in elim c.then-places-tokens.branch [
  | then-places-tokens-via-then-places-tokens w ↦ words_short a.tokens.now a.target.now a.name (length a.places.now) a.out.now w.if-places-tokens.true
  | then-places-tokens-via-else-places-tokens+then-places-target w ↦ target_short a.tokens.now a.target.now a.name (length a.places.now) a.out.now w.if-places-tokens.false w.if-places-target.true
]

pub replace_sought-requires : goal.replace_sought-requires
replace_sought-requires c = let a = c.args in
    let w = by_whole a.target.now a.name (sym c.in-Whole.is ∙ c.seek.ensures) in
    record { trees = (c.requires.0, target_is a.target.now a.name c.requires.1 c.requires.2 w.1, w.0); tokens_in_bounds = (omega (arith, c.if-places-tokens.false, c.seek.auto.places), c.requires.3) }

pub replace_sought-requires-in-Factors : goal.replace_sought-requires-in-Factors
replace_sought-requires-in-Factors c = let a = c.args in
    let w = by_parts a.target.now a.name (sym c.in-Factors.is ∙ c.seek.ensures) in
    record { trees = (c.requires.0, target_is a.target.now a.name c.requires.1 c.requires.2 w.1, w.0); tokens_in_bounds = (omega (arith, c.if-places-tokens.false, c.seek.auto.places), c.requires.3) }

pub returns-in-Whole : goal.returns-in-Whole
returns-in-Whole c = let a = c.args in answered a.tokens.now a.target.now a.name (length a.places.now) a.out.now c.if-places-tokens.false c.if-places-target.false (by_whole a.target.now a.name (sym c.in-Whole.is ∙ c.seek.ensures)).1 c.replace_sought.result c.replace_sought.new.out c.replace_sought.ensures

pub returns-in-Factors : goal.returns-in-Factors
returns-in-Factors c = let a = c.args in answered a.tokens.now a.target.now a.name (length a.places.now) a.out.now c.if-places-tokens.false c.if-places-target.false (by_parts a.target.now a.name (sym c.in-Factors.is ∙ c.seek.ensures)).1 c.replace_sought-in-Factors.result c.replace_sought-in-Factors.new.out c.replace_sought-in-Factors.ensures

pub returns-in-Endless : goal.returns-in-Endless
returns-in-Endless c = let a = c.args in never a.tokens.now a.target.now a.name (length a.places.now) a.out.now c.if-places-tokens.false c.if-places-target.false (by_endless a.target.now a.name (sym c.in-Endless.is ∙ c.seek.ensures))
