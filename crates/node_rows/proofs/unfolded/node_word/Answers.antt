-- `node_rows::unfolded::node_word` meets its contract, kind by kind. Assumes nothing.
use mathlib.Core.Path.{sym, ◌∙◌}
use native.Mathlib.Omega.{arith}
use Rattle.node_rows.proofs.unfolded.RowLaws.{stands}
use Rattle.node_rows.proofs.unfolded.WordLaws.{count_small, symbol_done, constant_here, sign_is, size_is, constant_done, operation_done}
use Rattle.node_rows.proofs.unfolded.node_word.Goals as goal

pub bounds-rows-at : goal.bounds-rows-at
bounds-rows-at c = omega (arith, stands c.requires.rows_laid c.args.r c.requires.r_bound, c.well_formed.0)

pub bounds-rows-at-in-1 : goal.bounds-rows-at-in-1
bounds-rows-at-in-1 c = omega (arith, stands c.requires.rows_laid c.args.r c.requires.r_bound, c.well_formed.0)

pub constant_code-requires : goal.constant_code-requires
constant_code-requires c = let d = stands c.requires.rows_laid c.args.r c.requires.r_bound in
    let e = sym c.kind_of.ensures.0 ∙ c.in-1.is in
    let k = constant_here d c.requires.rows_laid c.requires.r_bound e in
    let a = sign_is d c.requires.rows_laid c.requires.r_bound e in
    let b = size_is d c.requires.rows_laid c.requires.r_bound e in
    (rw b k.small, rw (a, b) k.minus)

pub bounds-rows-at-in_default : goal.bounds-rows-at-in_default
bounds-rows-at-in_default c = omega (arith, stands c.requires.rows_laid c.args.r c.requires.r_bound, c.well_formed.0)

pub overflow_mul-result-in_default : goal.overflow_mul-result-in_default
overflow_mul-result-in_default c = omega (arith, count_small (stands c.requires.rows_laid c.args.r c.requires.r_bound))

pub overflow_add-result-in_default-2 : goal.overflow_add-result-in_default-2
overflow_add-result-in_default-2 c = omega (arith, count_small (stands c.requires.rows_laid c.args.r c.requires.r_bound), c.kind_of.ensures.1)

pub returns-in-0-clause-value : goal.returns-in-0-clause-value
returns-in-0-clause-value c = symbol_done (stands c.requires.rows_laid c.args.r c.requires.r_bound) c.requires.rows_laid c.requires.r_bound c.symbol_number.result (sym c.kind_of.ensures.0 ∙ c.in-0.is) c.symbol_number.ensures.value.0

pub returns-in-1-clause-value : goal.returns-in-1-clause-value
returns-in-1-clause-value c = constant_done (stands c.requires.rows_laid c.args.r c.requires.r_bound) c.requires.rows_laid c.requires.r_bound c.constant_code.result (sym c.kind_of.ensures.0 ∙ c.in-1.is) c.constant_code.ensures.0

pub returns-in_default-clause-value : goal.returns-in_default-clause-value
returns-in_default-clause-value c = operation_done (stands c.requires.rows_laid c.args.r c.requires.r_bound) c.requires.rows_laid c.requires.r_bound c.kind_of.result c.kind_of.ensures.0 (omega arith)
