-- `node_rows::unfolded::unfold_within` meets its contract. Assumes nothing.
use native.Mathlib.Omega.{arith}
use Rattle.node_rows.proofs.unfolded.ChainLaws.{count_is}
use Rattle.node_rows.proofs.unfolded.RunLaws.{laid, roots_below, runs_are, runs_few}
use Rattle.node_rows.proofs.unfolded.unfold_within.Goals as goal

pub node_words-requires-clause-rows_laid : goal.node_words-requires-clause-rows_laid
node_words-requires-clause-rows_laid g c = laid c.args.rows.now c.args.roots.now c.requires.t

pub node_words-requires-clause-rows_in_bounds : goal.node_words-requires-clause-rows_in_bounds
node_words-requires-clause-rows_in_bounds g c = let n = count_is c.args.rows.now in (omega (arith, c.requires.rows_in_bounds), omega (arith, c.requires.rows_in_bounds))

pub unfold_each-requires-clause-rows_laid : goal.unfold_each-requires-clause-rows_laid
unfold_each-requires-clause-rows_laid g c = (laid c.args.rows.now c.args.roots.now c.requires.t, c.node_words.ensures)

pub unfold_each-requires-clause-t : goal.unfold_each-requires-clause-t
unfold_each-requires-clause-t g c = roots_below c.args.rows.now c.args.roots.now c.requires.t

pub unfold_each-requires-clause-list_in_bounds : goal.unfold_each-requires-clause-list_in_bounds
unfold_each-requires-clause-list_in_bounds g c = let f = runs_few c.args.rows.now c.args.roots.now c.requires.t in omega (arith, f, c.requires.in_bounds)

pub returns : goal.returns
returns g c = rw (← runs_are c.args.rows.now c.args.roots.now c.requires.t) c.unfold_each.ensures
