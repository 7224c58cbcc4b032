-- `fusion::groups::joins` meets its contract. Assumes nothing.
use native.Mathlib.Omega.{arith}
use mathlib.Core.Path.{◌∙◌}
use borrow.Author.Tests.{ne_eqb}
use Rattle.fusion.proofs.groups.Standing.{stands_inside}
use Rattle.fusion.proofs.groups.Joining.{key_inside, other_word, by_keys}
use Rattle.fusion.proofs.groups.joins.Goals as goal

pub offset_bounds-tokens-p : goal.offset_bounds-tokens-p
offset_bounds-tokens-p c = omega (arith, stands_inside c.args.tokens.now c.args.p c.requires.t.0, c.well_formed)

pub bounds-tokens-p : goal.bounds-tokens-p
bounds-tokens-p c = stands_inside c.args.tokens.now c.args.p c.requires.t.0

pub offset_bounds-tokens-q : goal.offset_bounds-tokens-q
offset_bounds-tokens-q c = omega (arith, stands_inside c.args.tokens.now c.args.q c.requires.t.1, c.well_formed)

pub bounds-tokens-q : goal.bounds-tokens-q
bounds-tokens-q c = stands_inside c.args.tokens.now c.args.q c.requires.t.1

pub overflow_add-p : goal.overflow_add-p
overflow_add-p c = omega (arith, stands_inside c.args.tokens.now c.args.p c.requires.t.0, c.well_formed)

pub overflow_add-q : goal.overflow_add-q
overflow_add-q c = omega (arith, stands_inside c.args.tokens.now c.args.q c.requires.t.1, c.well_formed)

pub equal_trees-requires-clause-i_in_bounds : goal.equal_trees-requires-clause-i_in_bounds
equal_trees-requires-clause-i_in_bounds c = (key_inside c.args.tokens.now c.args.p c.requires.complete c.requires.t.0, key_inside c.args.tokens.now c.args.q c.requires.complete c.requires.t.1)

pub returns-then-tokens-p : goal.returns-then-tokens-p
returns-then-tokens-p c = by_keys c.args.tokens.now c.args.p c.args.q c.requires.t.0 c.requires.t.1 c.if-tokens-p.true _ c.equal_trees.ensures

pub returns-else-tokens-p : goal.returns-else-tokens-p
returns-else-tokens-p c = ne_eqb _ _ c.if-tokens-p.false ∙ other_word c.args.tokens.now c.args.p c.args.q c.requires.t.0 c.requires.t.1 c.if-tokens-p.false
