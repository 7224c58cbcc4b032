-- `cse_scoped::one_scope::group_begin` meets its contract. Assumes nothing.
use native.Mathlib.Omega.{arith}
use Rattle.cse_scoped.proofs.one_scope.Leaves.{begins_at}
use Rattle.statements.proofs.Keys.{first_begins}
use Rattle.cse_scoped.proofs.one_scope.group_begin.Goals as goal

pub returns-then-g-eq0 : goal.returns-then-g-eq0
returns-then-g-eq0 c = let a = c.args in first_begins a.ends.now a.g c.if-g-eq0.true

pub returns-else-g-eq0 : goal.returns-else-g-eq0
returns-else-g-eq0 c = let a = c.args in begins_at a.ends.now a.g (omega (arith, c.if-g-eq0.false))
