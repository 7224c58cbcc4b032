use Rattle.cse_flat.specs.trees.Runs.{rows_of_all}
use Rattle.cse_flat.proofs.ending.Ends.{too_many, rows_written}
use Rattle.cse_flat.proofs.ending.write_answer.Goals as goal

pub returns-then-rows-table : goal.returns-then-rows-table
returns-then-rows-table c =
    too_many (rows_of_all c.args.trees.now c.args.taken.now) c.args.table.now _ c.count_rows-rows.result c.count_rows-rows.ensures c.if-rows-table.true

pub returns : goal.returns
returns c =
    rows_written (rows_of_all c.args.trees.now c.args.taken.now) c.args.table.now _ c.count_rows-rows.result c.count_rows-rows.ensures c.if-rows-table.false _ c.write_rows.ensures
