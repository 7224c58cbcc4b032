-- `node_rows::rows::measure_all` meets its contract. Assumes nothing.
use native.Mathlib.Omega.{arith}
use lib.ListN.{length}
use Rattle.node_rows.proofs.rows.Sums.{number_below, summing_next, summing_end, deepening_next, deepening_end}
use Rattle.node_rows.proofs.rows.measure_all.Goals as goal

pub offset_bounds-sizes-at : goal.offset_bounds-sizes-at
offset_bounds-sizes-at c = omega (arith, number_below (length c.args.sizes.now) c.args.numbers.now c.loop-n.n-index c.requires.0 c.loop-n-test.true, c.well_formed)

pub bounds-sizes-at : goal.bounds-sizes-at
bounds-sizes-at c = number_below (length c.args.sizes.now) c.args.numbers.now c.loop-n.n-index c.requires.0 c.loop-n-test.true

pub offset_bounds-levels-at : goal.offset_bounds-levels-at
offset_bounds-levels-at c = omega (arith, number_below (length c.args.levels.now) c.args.numbers.now c.loop-n.n-index c.requires.1 c.loop-n-test.true, c.well_formed)

pub bounds-levels-at : goal.bounds-levels-at
bounds-levels-at c = number_below (length c.args.levels.now) c.args.numbers.now c.loop-n.n-index c.requires.1 c.loop-n-test.true

pub loop-n-preserved : goal.loop-n-preserved
loop-n-preserved c = (summing_next c.loop-n.invariant.0 c.loop-n-test.true c.capped_sum-size.result c.capped_sum-size.ensures, deepening_next c.loop-n.invariant.1 c.loop-n-test.true c.max-level.result c.max-level.ensures)

pub returns : goal.returns
returns c = (summing_end c.loop-n.invariant.0 c.loop-n-test.false, deepening_end c.loop-n.invariant.1 c.loop-n-test.false)
