-- `node_rows::records::roots_bytes` meets its contract: the sum is that of the roots passed. Assumes nothing.
use mathlib.Core.Path.{refl}
use native.Mathlib.Omega.{arith}
use native.Mathlib.Numerals.{add-one}
use Rattle.spec_tree.specs.Records.{root_records, terminated}
use Rattle.node_rows.proofs.records.RecordBytes.{roots_step}
use Rattle.node_rows.proofs.records.roots_bytes.Goals as goal

pub loop-n-init : goal.loop-n-init
unfolding terminated root_records
loop-n-init c = (omega arith, refl)

pub loop-n-preserved : goal.loop-n-preserved
loop-n-preserved c = let s = c.args.roots.now in
    (omega (arith, c.digit_count.ensures), rw add-one (omega (arith, c.digit_count.ensures, c.loop-n.invariant.1, roots_step s c.loop-n.n-index c.loop-n-test.true)))
