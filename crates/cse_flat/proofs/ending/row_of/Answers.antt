use Rattle.reciprocals.proofs.final.Rows.{row_let, row_result}
use Rattle.cse_flat.proofs.ending.row_of.Goals as goal

pub returns-then-q-taken : goal.returns-then-q-taken
returns-then-q-taken c = row_let c.args.taken.now 0 c.args.q c.if-q-taken.true

pub returns-else-q-taken : goal.returns-else-q-taken
returns-else-q-taken c = row_result c.args.taken.now 0 c.args.q c.if-q-taken.false
