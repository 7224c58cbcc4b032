-- `node_rows::rows::deepest` meets its contract. Assumes nothing.
use native.Mathlib.Omega.{arith}
use lib.ListN.{length}
use Rattle.node_rows.proofs.rows.Sums.{number_below, deepening_next, deepening_end}
use Rattle.node_rows.proofs.rows.deepest.Goals as goal

pub offset_bounds-levels-n : goal.offset_bounds-levels-n
offset_bounds-levels-n c = omega (arith, number_below (length c.args.levels.now) c.args.numbers.now c.loop-n.n-index c.requires c.loop-n-test.true, c.well_formed)

pub bounds-levels-n : goal.bounds-levels-n
bounds-levels-n c = number_below (length c.args.levels.now) c.args.numbers.now c.loop-n.n-index c.requires c.loop-n-test.true

pub loop-n-preserved : goal.loop-n-preserved
loop-n-preserved c = deepening_next c.loop-n.invariant c.loop-n-test.true c.max-level.result c.max-level.ensures

pub returns : goal.returns
returns c = deepening_end c.loop-n.invariant c.loop-n-test.false
