-- `fusion::tables::write_names` meets its contract: the rows of the first i numbers are put. Assumes nothing.
use native.Mathlib.Omega.{arith}
use mathlib.Core.Path.{sym}
use Rattle.fusion.specs.tables.Names.{rows_of_names}
use Rattle.fusion.proofs.tables.Laws.{overlay_past}
use Rattle.fusion.proofs.tables.Putting.{put_starts, rows_put, row_turns, number_fits}
use Rattle.fusion.proofs.tables.write_names.Goals as goal

pub returns-then-at-table : goal.returns-then-at-table
returns-then-at-table c = sym (overlay_past c.args.at (rows_of_names c.args.numbers.now) c.args.table.now (omega arith))

pub loop-i-init : goal.loop-i-init
loop-i-init c = put_starts (rows_of_names c.args.numbers.now) c.args.table.now c.args.at (omega arith)

pub overflow_mul-table : goal.overflow_mul-table
overflow_mul-table c = omega (arith, number_fits c.args.numbers.now c.loop-i.i c.requires)

pub overflow_add-table : goal.overflow_add-table
overflow_add-table c = omega (arith, number_fits c.args.numbers.now c.loop-i.i c.requires)

pub loop-i-preserved : goal.loop-i-preserved
loop-i-preserved c = row_turns c.args.numbers.now c.args.table.now c.loop-i.table c.args.at c.loop-i.i c.loop-i.invariant (omega arith) (omega arith)

pub returns : goal.returns
returns c = rows_put c.args.numbers.now c.args.table.now c.loop-i.table c.args.at c.loop-i.i c.loop-i.invariant (omega arith) c.if-at-table.false
