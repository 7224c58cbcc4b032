-- `cse_scoped::lay_rows` meets its contract. Assumes nothing.
use native.Mathlib.Omega.{arith}
use Rattle.scope_laws.specs.measured.Roots.{roots_told}
use Rattle.cse_scoped.proofs.Ends.{laid_by}
use Rattle.cse_scoped.proofs.lay_rows.Goals as goal

pub returns-then-end-kept : goal.returns-then-end-kept
returns-then-end-kept c = laid_by (roots_told c.args.rows.now c.args.roots.now) c.args.table.now _ _ c.put.ensures (c.requires.keeps (omega (arith, c.if-end-kept.true)) c.args.table.now)
