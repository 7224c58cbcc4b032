-- `node_rows::names::is_word_byte` meets its contract: past the table there is none, and the table is tested at every byte by computing. Assumes nothing.
use Rattle.node_rows.proofs.names.Leaves.{word_byte}
use Rattle.node_rows.proofs.names.is_word_byte.Goals as goal

pub returns-then-b-lt128 : goal.returns-then-b-lt128
returns-then-b-lt128 c = word_byte c.args.b c.if-b-lt128.true
