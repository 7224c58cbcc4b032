-- `fusion::tables::put_word` meets its contract: one word is put, or it is past the end. Assumes nothing.
use Rattle.fusion.proofs.tables.Putting.{word_put, word_past}
use Rattle.fusion.proofs.tables.put_word.Goals as goal

pub returns-then-at-table : goal.returns-then-at-table
returns-then-at-table c = word_put c.args.at c.args.word c.args.table.now

pub returns-else-at-table : goal.returns-else-at-table
returns-else-at-table c = word_past c.args.at c.args.word c.args.table.now c.if-at-table.false
