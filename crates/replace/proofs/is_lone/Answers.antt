-- `replace::is_lone` meets its contract. Assumes nothing.
use Rattle.std.proofs.Common.{[], ◌∷◌, get_or, ap, ◌∙◌, arith}
use Rattle.words.specs.words.Words.{begins_with}
use Rattle.words.proofs.words.Rewriting.{one_long}
use Rattle.replace.proofs.Deciding.{lone_none, lone_many, lone_one, at_within}
use Rattle.spec_tree.proofs.Lists.{rest_is}
use Rattle.replace.proofs.is_lone.Goals as goal

pub bounds-places-0 : goal.bounds-places-0
bounds-places-0 c = omega (arith, one_long c.args.target.now c.requires.target_value.0, c.requires.target_in_bounds)

pub offset_bounds-target-places : goal.offset_bounds-target-places
offset_bounds-target-places c = let a = c.args in omega (arith, at_within a.target.now a.name a.flat.coefficient a.flat.count a.places.now c.requires.target_value.0 c.requires.target_value.1 c.requires.flat_first (omega (arith, c.if-flat-eq0.false, c.if-flat-gt1.false)) c.requires.target_in_bounds, c.well_formed)

pub slice_bounds-starts_with-count : goal.slice_bounds-starts_with-count
slice_bounds-starts_with-count c = let a = c.args in omega (arith, at_within a.target.now a.name a.flat.coefficient a.flat.count a.places.now c.requires.target_value.0 c.requires.target_value.1 c.requires.flat_first (omega (arith, c.if-flat-eq0.false, c.if-flat-gt1.false)) c.requires.target_in_bounds, c.well_formed)

pub slice_bounds-starts_with-start : goal.slice_bounds-starts_with-start
slice_bounds-starts_with-start c = let a = c.args in omega (arith, at_within a.target.now a.name a.flat.coefficient a.flat.count a.places.now c.requires.target_value.0 c.requires.target_value.1 c.requires.flat_first (omega (arith, c.if-flat-eq0.false, c.if-flat-gt1.false)) c.requires.target_in_bounds, c.well_formed)

pub returns-then-flat-eq0 : goal.returns-then-flat-eq0
returns-then-flat-eq0 c = let a = c.args in lone_none a.target.now a.name a.flat.coefficient a.flat.count a.places.now c.requires.target_value.0 c.requires.target_value.1 c.requires.flat_first c.if-flat-eq0.true

pub returns-then-flat-gt1 : goal.returns-then-flat-gt1
returns-then-flat-gt1 c = let a = c.args in lone_many a.target.now a.name a.flat.coefficient a.flat.count a.places.now c.requires.target_value.0 c.requires.target_value.1 c.requires.flat_first c.if-flat-gt1.true

pub returns-else-flat-gt1 : goal.returns-else-flat-gt1
returns-else-flat-gt1 c = let a = c.args in lone_one a.target.now a.name a.flat.coefficient a.flat.count a.places.now c.requires.target_value.0 c.requires.target_value.1 c.requires.flat_first (omega (arith, c.if-flat-eq0.false, c.if-flat-gt1.false)) c.requires.target_in_bounds c.starts_with.result (c.starts_with.ensures ∙ ap (λ l. begins_with l (a.name ∷ [])) (rest_is a.target.now (get_or a.places.now 0 0)))
