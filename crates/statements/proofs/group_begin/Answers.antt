-- `statements::group_begin` meets its contract. Assumes nothing.
use Rattle.statements.proofs.Keys.{first_begins, next_begins}
use Rattle.statements.proofs.group_begin.Goals as goal

pub returns-then-g-eq0 : goal.returns-then-g-eq0
returns-then-g-eq0 c = first_begins c.args.ends.now c.args.g c.if-g-eq0.true

pub returns-else-g-eq0 : goal.returns-else-g-eq0
returns-else-g-eq0 c = next_begins c.args.ends.now c.args.g c.if-g-eq0.false
