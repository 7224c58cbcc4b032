-- `node_rows::unfolded::unfold` meets its contract: the refusal, and the words. Assumes nothing.
use Rattle.std.proofs.Common.{rules}
use Rattle.node_rows.proofs.unfolded.EntryLaws.{accepted, not_accepted, written}
use Rattle.node_rows.proofs.unfolded.unfold.Goals as goal

pub returns-in_err-ok_or : goal.returns-in_err-ok_or
returns-in_err-ok_or c = let a = c.args in
    let e = not_accepted a.rows.now a.roots.now a.out.now _ _ _ c.ok_or.ensures.value c.in_err-ok_or.was c.check_rows.ensures in search rules

pub unfold_roots-requires-clause-t : goal.unfold_roots-requires-clause-t
unfold_roots-requires-clause-t c = accepted c.args.rows.now c.args.roots.now _ _ _ c.ok_or.ensures.value c.in_ok-ok_or.was c.check_rows.ensures

pub returns : goal.returns
returns c = let a = c.args in
    written a.rows.now a.roots.now a.out.now (accepted a.rows.now a.roots.now _ _ _ c.ok_or.ensures.value c.in_ok-ok_or.was c.check_rows.ensures) _ _ c.unfold_roots.ensures
