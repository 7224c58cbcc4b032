-- `node_rows::unfolded::unfold_roots` meets its contract. Assumes nothing.
use native.Mathlib.Omega.{arith}
use Rattle.node_rows.proofs.unfolded.ChainLaws.{count_is}
use Rattle.node_rows.proofs.unfolded.RunLaws.{laid}
use Rattle.node_rows.proofs.unfolded.unfold_roots.Goals as goal

pub unfold_within-requires-else-rows-le128-clause-rows_in_bounds : goal.unfold_within-requires-else-rows-le128-clause-rows_in_bounds
unfold_within-requires-else-rows-le128-clause-rows_in_bounds c = let l = laid c.args.rows.now c.args.roots.now c.requires.t in
    let n = count_is c.args.rows.now in omega (arith, l.few)
