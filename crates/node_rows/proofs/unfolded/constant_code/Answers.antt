-- `node_rows::unfolded::constant_code` meets its contract. Assumes nothing.
use native.Mathlib.Omega.{arith}
use Rattle.node_rows.proofs.unfolded.WordLaws.{plus_code, minus_code}
use Rattle.node_rows.proofs.unfolded.constant_code.Goals as goal

pub returns-then-sign-eq0 : goal.returns-then-sign-eq0
returns-then-sign-eq0 c = (plus_code c.args.sign c.args.size c.if-sign-eq0.true, omega arith)

pub returns-else-sign-eq0 : goal.returns-else-sign-eq0
returns-else-sign-eq0 c = (minus_code c.args.sign c.args.size c.if-sign-eq0.false (c.requires.1 (omega arith)), omega arith)
