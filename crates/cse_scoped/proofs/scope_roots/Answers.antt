use Rattle.std.proofs.Common.{rules}
use mathlib.Core.Path.{ap, sym}
use Rattle.node_rows.specs.unfolded.Unfold.{told}
use Rattle.scope_laws.specs.measured.Roots.{roots_told}
-- `cse_scoped::scope_roots` meets its contract. Assumes nothing.
use native.Mathlib.Omega.{arith}
use mathlib.Core.Path.{◌∙◌}
use Rattle.cse_flat.proofs.refined.Starting.{start_short}
use Rattle.cse_flat.proofs.refined.Unfolding.{unfold_tokens, unfold_refused, unfold_number}
use Rattle.cse_flat.proofs.refined.Flat.{flat_extractable, flat_symbols}
use Rattle.cse_scoped.specs.one_scope.Frame.{most_rows}
use Rattle.cse_scoped.proofs.Ends.{scope_nine, stops_so, scope_within, scope_there}
use Rattle.cse_scoped.proofs.scope_roots.Goals as goal

pub returns-in_err-len : goal.returns-in_err-len
returns-in_err-len c =
    let a = c.args in
    let is = ap told c.in_err-len.was in
    let n = unfold_number a.rows.now a.roots.now a.work.now (told c.unfold.result) _ c.unfold.ensures _ is in
    let e = stops_so (roots_told a.rows.now a.roots.now) a.table.now _ _ (sym n) (scope_nine a.rows.now a.roots.now (unfold_refused a.rows.now a.roots.now a.work.now (told c.unfold.result) _ c.unfold.ensures _ is) a.table.now) in
    search rules

pub scope-requires : goal.scope-requires
scope-requires c = let a = c.args in
    let u = unfold_tokens a.rows.now a.roots.now a.work.now (told c.unfold.result) _ c.unfold.ensures c.in_ok-len.len (ap told c.in_ok-len.was) in
    let f = start_short a.rows.now a.roots.now u.0 in
    record { t = (flat_extractable a.rows.now a.roots.now 0 u.0 _ u.2, flat_symbols a.rows.now a.roots.now 0 u.0 _ u.2); lent = record { words = omega (arith, c.requires.work_len.0, c.unfold.auto.out); inside = omega (arith, u.1, f, c.requires.work_len.0, c.unfold.auto.out); bytes = c.requires.work_len.1 }; work_bound = scope_within a.rows.now a.roots.now u.0 _ u.2 _ (c.unfold.auto.out ∙ c.requires.work_len.0) most_rows c.requires.roots_bound }

pub returns : goal.returns
returns c = let a = c.args in let u = unfold_tokens a.rows.now a.roots.now a.work.now (told c.unfold.result) _ c.unfold.ensures c.in_ok-len.len (ap told c.in_ok-len.was) in scope_there a.rows.now a.roots.now u.0 _ u.2 _ (c.unfold.auto.out ∙ c.requires.work_len.0) a.table.now _ _ c.scope.ensures
