-- `fusion::switches::is_among` meets its contract. Assumes nothing.
use mathlib.Core.Path.{sym, ◌∙◌}
use lib.ListN.{length}
use Rattle.fusion.proofs.switches.Among.{inside_at, found_there, goes_past, seeking_ends}
use Rattle.fusion.proofs.switches.is_among.Goals as goal

pub equal_trees-requires-clause-i_in_bounds : goal.equal_trees-requires-clause-i_in_bounds
equal_trees-requires-clause-i_in_bounds c = (inside_at (length c.args.tokens.now) c.args.list.now c.loop-p.p-index c.requires.inside c.loop-p-test.true, c.requires.complete.1)

pub returns-then-equal_trees : goal.returns-then-equal_trees
returns-then-equal_trees c = found_there c.args.tokens.now c.args.list.now c.args.q c.loop-p.invariant c.loop-p-test.true (sym c.if-equal_trees.true ∙ c.equal_trees.ensures)

pub loop-p-preserved : goal.loop-p-preserved
loop-p-preserved c = goes_past c.args.tokens.now c.args.list.now c.args.q c.loop-p.invariant c.loop-p-test.true (sym c.if-equal_trees.false ∙ c.equal_trees.ensures)

pub returns : goal.returns
returns c = seeking_ends c.args.tokens.now c.args.list.now c.args.q c.loop-p.invariant c.loop-p-test.false
