-- `fmt::checked::tree_ok` meets its contract. Assumes nothing.
use native.Mathlib.Omega.{arith}
use mathlib.Core.Path.{◌∙◌}
use Rattle.fmt.specs.checked.Check.{rows_in}
use Rattle.fmt.proofs.checked.RunLaws.{no_run, run_inside, answered}
use Rattle.fmt.proofs.checked.tree_ok.Goals as goal

pub returns-in_err-end : goal.returns-in_err-end
returns-in_err-end c = let a = c.args in
    rw c.from_residual.ensures (no_run (rows_in a.rows.now) a.tokens.now a.at c.in_err-end.ensures)

pub offset_bounds-tokens-at : goal.offset_bounds-tokens-at
offset_bounds-tokens-at c = let a = c.args in
    omega (arith, run_inside (rows_in a.rows.now) a.tokens.now a.at _ c.in_ok-end.ensures, c.well_formed)

pub slice_bounds-words_ok-count : goal.slice_bounds-words_ok-count
slice_bounds-words_ok-count c = let a = c.args in
    (run_inside (rows_in a.rows.now) a.tokens.now a.at _ c.in_ok-end.ensures).0

pub slice_bounds-words_ok-start : goal.slice_bounds-words_ok-start
slice_bounds-words_ok-start c = let a = c.args in
    omega (arith, run_inside (rows_in a.rows.now) a.tokens.now a.at _ c.in_ok-end.ensures)

pub slice_bounds-words_ok-end : goal.slice_bounds-words_ok-end
slice_bounds-words_ok-end c = let a = c.args in
    omega (arith, run_inside (rows_in a.rows.now) a.tokens.now a.at _ c.in_ok-end.ensures)

pub returns : goal.returns
returns c = let a = c.args in
    let p = c.in_ok-end.ensures in
    c.then_some.ensures ∙ answered (rows_in a.rows.now) a.tokens.now a.at _ p _ c.words_ok.ensures
