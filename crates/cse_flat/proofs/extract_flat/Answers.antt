use mathlib.Core.Bool.{false}
use Rattle.std.proofs.Common.{rules}
use mathlib.Core.Path.{ap, sym}
use lib.ListN.{length}
use Rattle.node_rows.specs.unfolded.Unfold.{told}
use Rattle.cse_flat.specs.refined.Parts.{extract_from}
use Prim.Native.Nat.{◌≤◌}
use native.Mathlib.Omega.{arith}
use Rattle.cse_flat.proofs.refined.Starting.{start_short}
use Rattle.cse_flat.proofs.refined.Unfolding.{unfold_tokens, unfold_words, unfold_refused, unfold_number}
use Rattle.rounds.proofs.Lending.{few_lent, some_lent}
use Rattle.cse_flat.proofs.Ends.{is_nine, refuses_so}
use Rattle.cse_flat.proofs.extract_flat.Goals as goal

pub returns-in_err-len : goal.returns-in_err-len
returns-in_err-len c =
    let a = c.args in
    let x = c.unfold in
    let is = ap told c.in_err-len.was in
    let n = unfold_number a.rows.now a.roots.now a.work.now (told x.result) _ x.ensures _ is in
    let e = refuses_so (extract_from false a.rows.now a.roots.now (length a.table.now)) a.table.now _ _ (sym n) (is_nine a.rows.now a.roots.now a.table.now (unfold_refused a.rows.now a.roots.now a.work.now (told x.result) _ x.ensures _ is)) in
    search rules

pub extract_within-requires : goal.extract_within-requires
extract_within-requires c = let a = c.args in
    let x = c.unfold in
    let u = unfold_words a.rows.now a.roots.now a.work.now (told x.result) _ x.ensures c.in_ok-len.len (ap told c.in_ok-len.was) in
    record { roots_value = (u.0, c.if-len-le-FEW.true, omega (arith, c.if-len-le-FEW.true)); lent = (few_lent _ c.if-len-le-FEW.true, omega arith, omega arith, omega arith); work_len = (omega (arith, x.auto.out, c.requires.0), c.requires.1) }

pub extract_within-requires-else-len-le-FEW : goal.extract_within-requires-else-len-le-FEW
extract_within-requires-else-len-le-FEW c = let a = c.args in
    let x = c.unfold in
    let u = unfold_words a.rows.now a.roots.now a.work.now (told x.result) _ x.ensures c.in_ok-len.len (ap told c.in_ok-len.was) in
    let v = unfold_tokens a.rows.now a.roots.now a.work.now (told x.result) _ x.ensures c.in_ok-len.len (ap told c.in_ok-len.was) in
    let short : c.in_ok-len.len ≤ 1024 = omega (arith, v.1, start_short a.rows.now a.roots.now v.0) in
    record { roots_value = (u.0, short, omega (arith, short)); lent = (some_lent _ short, omega arith, omega arith, omega arith); work_len = (omega (arith, x.auto.out, c.requires.0), c.requires.1) }
