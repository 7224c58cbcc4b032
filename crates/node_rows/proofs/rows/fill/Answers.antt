-- `node_rows::rows::fill` meets its contract. Assumes nothing.
use mathlib.Core.Path.{sym, ◌∙◌}
use native.Mathlib.Omega.{arith}
use lib.ListN.{length-set}
use Rattle.node_rows.proofs.rows.Filling.{filling_next, filling_stop, filling_end, row_ready}
use Rattle.node_rows.proofs.rows.fill.Goals as goal

pub returns-then-not-row_ok : goal.returns-then-not-row_ok
returns-then-not-row_ok c = filling_stop c.loop-i.invariant.0 c.loop-i-test.true (sym c.row_ok.ensures ∙ c.if-not-row_ok.true)

pub measure_row-m-requires-clause-row_len : goal.measure_row-m-requires-clause-row_len
measure_row-m-requires-clause-row_len c = (row_ready c.loop-i.invariant.0 c.loop-i-test.true c.requires.0 (omega (arith, c.loop-i.invariant.1.0, c.requires)) (omega (arith, c.loop-i.invariant.1.1, c.requires)) (sym c.row_ok.ensures ∙ c.if-not-row_ok.false)).0

pub measure_row-m-requires-clause-t : goal.measure_row-m-requires-clause-t
measure_row-m-requires-clause-t c = (row_ready c.loop-i.invariant.0 c.loop-i-test.true c.requires.0 (omega (arith, c.loop-i.invariant.1.0, c.requires)) (omega (arith, c.loop-i.invariant.1.1, c.requires)) (sym c.row_ok.ensures ∙ c.if-not-row_ok.false)).1

pub loop-i-preserved : goal.loop-i-preserved
loop-i-preserved c = (filling_next c.loop-i.invariant.0 c.loop-i-test.true (omega (arith, c.loop-i.invariant.1.0, c.requires)) (omega (arith, c.loop-i.invariant.1.1, c.requires)) (sym c.row_ok.ensures ∙ c.if-not-row_ok.false) c.measure_row-m.result.size c.measure_row-m.result.level c.measure_row-m.ensures.0 c.measure_row-m.ensures.1, (length-set c.loop-i.sizes c.loop-i.i c.measure_row-m.result.size ∙ c.loop-i.invariant.1.0, length-set c.loop-i.levels c.loop-i.i c.measure_row-m.result.level ∙ c.loop-i.invariant.1.1))

pub returns : goal.returns
returns c = filling_end c.loop-i.invariant.0 c.loop-i-test.false
