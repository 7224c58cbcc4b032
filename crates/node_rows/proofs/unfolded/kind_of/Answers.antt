-- `node_rows::unfolded::kind_of` meets its contract. Assumes nothing.
use native.Mathlib.Omega.{arith}
use Rattle.node_rows.proofs.unfolded.RowLaws.{stands}
use Rattle.node_rows.proofs.unfolded.WordLaws.{kind_done}
use Rattle.node_rows.proofs.unfolded.kind_of.Goals as goal

pub bounds-rows-at : goal.bounds-rows-at
bounds-rows-at c = omega (arith, stands c.requires.rows_laid c.args.r c.requires.r_bound)

pub bounds-rows-at-2 : goal.bounds-rows-at-2
bounds-rows-at-2 c = omega (arith, stands c.requires.rows_laid c.args.r c.requires.r_bound)

pub overflow_add-result-2 : goal.overflow_add-result-2
overflow_add-result-2 c = omega (arith, kind_done (stands c.requires.rows_laid c.args.r c.requires.r_bound))

pub returns : goal.returns
returns c = kind_done (stands c.requires.rows_laid c.args.r c.requires.r_bound)
