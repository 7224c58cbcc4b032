-- `node_rows::unfolded::fields_of` meets its contract. Assumes nothing.
use mathlib.Core.Path.{refl}
use native.Mathlib.Omega.{arith}
use Rattle.node_rows.proofs.unfolded.RowLaws.{stands}
use Rattle.node_rows.proofs.unfolded.NameLaws.{name_lent}
use Rattle.node_rows.proofs.unfolded.fields_of.Goals as goal

pub bounds-rows-at : goal.bounds-rows-at
bounds-rows-at c = omega (arith, stands c.requires.rows_laid c.args.r c.requires.r_bound)

pub overflow_add-result-3 : goal.overflow_add-result-3
overflow_add-result-3 c = omega (arith, stands c.requires.rows_laid c.args.r c.requires.r_bound, c.well_formed.0)

pub slice_bounds-result-end : goal.slice_bounds-result-end
slice_bounds-result-end c = omega (arith, stands c.requires.rows_laid c.args.r c.requires.r_bound)

pub returns : goal.returns
returns c = name_lent (stands c.requires.rows_laid c.args.r c.requires.r_bound) _ refl
