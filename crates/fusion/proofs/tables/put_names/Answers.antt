-- `fusion::tables::put_names` meets its contract: the rows are written where each number has one. Assumes nothing.
use Rattle.fusion.proofs.tables.Putting.{names_written, names_kept}
use Rattle.fusion.proofs.tables.put_names.Goals as goal

pub returns-then-fits : goal.returns-then-fits
returns-then-fits c = names_written c.args.numbers.now c.args.table.now _ c.args.at _ c.fit-fits.ensures c.if-fits.true c.write_names.ensures

pub returns-else-fits : goal.returns-else-fits
returns-else-fits c = names_kept c.args.numbers.now c.args.table.now c.args.at _ c.fit-fits.ensures c.if-fits.false
