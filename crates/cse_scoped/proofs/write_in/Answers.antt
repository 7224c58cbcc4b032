-- `cse_scoped::write_in` meets its contract. Assumes nothing.
use native.Mathlib.Omega.{arith}
use Rattle.scope_laws.specs.measured.Roots.{roots_told}
use mathlib.Core.Path.{ap}
use Rattle.cse_scoped.specs.one_scope.Answers.{scope_named}
use Rattle.cse_scoped.proofs.Ends.{counts_rows, counts_none, keeps, leaves, twelve, writes_rows, writes_none}
use borrow.Author.Rules.{rules}
use Rattle.cse_scoped.proofs.write_in.Goals as goal

pub returns-then-table-scope : goal.returns-then-table-scope
returns-then-table-scope c = let a = c.args in let o = roots_told a.rows.now a.roots.now in twelve a.rows.now a.roots.now a.table.now _ (counts_rows o (scope_named c.scope_roots.result) c.scope_roots.ensures.0 _ _ _ _ (ap scope_named c.in_ok-scope.was)) (omega (arith, c.if-table-scope.true))

pub lay_rows-requires : goal.lay_rows-requires
lay_rows-requires c = let a = c.args in
    let o = roots_told a.rows.now a.roots.now in
    record { work_len = (omega (arith, c.requires.work_len.0, c.scope_roots.auto.work), omega (arith, c.requires.work_len.1, c.scope_roots.auto.text)); roots_bound = c.requires.roots_bound; keeps = keeps o (scope_named c.scope_roots.result) c.scope_roots.ensures.0 _ _ _ _ (ap scope_named c.in_ok-scope.was) _ _ c.scope_roots.ensures.1 }

pub returns : goal.returns
returns c = let a = c.args in let o = roots_told a.rows.now a.roots.now in writes_rows a.rows.now a.roots.now a.table.now _ (counts_rows o (scope_named c.scope_roots.result) c.scope_roots.ensures.0 _ _ _ _ (ap scope_named c.in_ok-scope.was)) (omega (arith, c.if-table-scope.false)) (scope_named c.scope_roots.result) _ (c.scope_roots.ensures.0, c.lay_rows.ensures) _ _ _ _ (ap scope_named c.in_ok-scope.was)

pub returns-in_err-scope : goal.returns-in_err-scope
returns-in_err-scope c = let a = c.args in let o = roots_told a.rows.now a.roots.now in let e = writes_none a.rows.now a.roots.now a.table.now 0 (counts_none o (scope_named c.scope_roots.result) c.scope_roots.ensures.0 _ (ap scope_named c.in_err-scope.was)) (omega arith) (scope_named c.scope_roots.result) _ (c.scope_roots.ensures.0, leaves o (scope_named c.scope_roots.result) c.scope_roots.ensures.0 _ (ap scope_named c.in_err-scope.was) a.table.now) _ (ap scope_named c.in_err-scope.was) in search rules
