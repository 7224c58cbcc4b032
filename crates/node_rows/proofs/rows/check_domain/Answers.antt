-- `node_rows::rows::check_domain` meets its contract. Assumes nothing.
use Rattle.node_rows.proofs.rows.TableLaws.{stop_uneven, stop_rows, stop_roots}
use Rattle.node_rows.proofs.rows.check_domain.Goals as goal
use Rattle.node_rows.proofs.rows.check_domain.Goals.{then-rows-n-via-then-rows-n, then-rows-n-via-else-rows-n+then-n-gt1024, then-rows-n-via-else-rows-n+else-n-gt1024+then-roots-gt64}

pub returns-then-rows-n : goal.returns-then-rows-n
returns-then-rows-n c =
    elim c.then-rows-n.branch [
      | then-rows-n-via-then-rows-n w ↦ stop_uneven c.args.rows.now c.args.roots.now w.if-rows-n.true
      | then-rows-n-via-else-rows-n+then-n-gt1024 w ↦ stop_rows c.args.rows.now c.args.roots.now w.if-rows-n.false w.if-n-gt1024.true
      | then-rows-n-via-else-rows-n+else-n-gt1024+then-roots-gt64 w ↦ stop_roots c.args.rows.now c.args.roots.now w.if-rows-n.false w.if-n-gt1024.false w.if-roots-gt64.true
    ]
