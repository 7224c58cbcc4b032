-- `print::answers::tree` meets its contract. Assumes nothing.
use Rattle.std.proofs.Common.{refl, sym, ◌∙◌, arith}
use Rattle.fmt.specs.checked.Check.{rows_in}
use Rattle.print.proofs.answers.Ends.{no_tree, tree_inside, tree_told}
use Rattle.print.proofs.answers.tree.Goals as goal

pub returns-in_err-end : goal.returns-in_err-end
returns-in_err-end c = rw c.from_residual.ensures (no_tree (rows_in c.args.rows.now) c.args.words.now c.args.at (sym c.in_err-end.was ∙ c.tree_ok.ensures))

pub offset_bounds-words-at : goal.offset_bounds-words-at
offset_bounds-words-at c = omega (arith, tree_inside (rows_in c.args.rows.now) c.args.words.now c.args.at c.in_ok-end.end (sym c.in_ok-end.was ∙ c.tree_ok.ensures), c.well_formed)

pub slice_bounds-all_first-count : goal.slice_bounds-all_first-count
slice_bounds-all_first-count c = (tree_inside (rows_in c.args.rows.now) c.args.words.now c.args.at c.in_ok-end.end (sym c.in_ok-end.was ∙ c.tree_ok.ensures)).0

pub slice_bounds-all_first-start : goal.slice_bounds-all_first-start
slice_bounds-all_first-start c = omega (arith, tree_inside (rows_in c.args.rows.now) c.args.words.now c.args.at c.in_ok-end.end (sym c.in_ok-end.was ∙ c.tree_ok.ensures))

pub slice_bounds-all_first-end : goal.slice_bounds-all_first-end
slice_bounds-all_first-end c = omega (arith, tree_inside (rows_in c.args.rows.now) c.args.words.now c.args.at c.in_ok-end.end (sym c.in_ok-end.was ∙ c.tree_ok.ensures))

pub returns : goal.returns
returns c = rw c.then_some.ensures (tree_told (rows_in c.args.rows.now) c.args.words.now c.args.at c.in_ok-end.end _ (sym c.in_ok-end.was ∙ c.tree_ok.ensures) refl c.all_first.result c.all_first.ensures)
