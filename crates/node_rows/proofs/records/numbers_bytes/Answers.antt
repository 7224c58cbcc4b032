-- `node_rows::records::numbers_bytes` meets its contract: the sum is that of the numbers passed. Assumes nothing.
use mathlib.Core.Path.{sym}
use native.Mathlib.Omega.{arith}
use native.Mathlib.Numerals.{add-one}
use Rattle.spec_tree.proofs.Digits.{numbers_step, numbers_none}
use Rattle.node_rows.proofs.records.numbers_bytes.Goals as goal

pub loop-n-init : goal.loop-n-init
loop-n-init c = (omega arith, sym numbers_none)

pub loop-n-preserved : goal.loop-n-preserved
loop-n-preserved c = let s = c.args.s.now in
    (omega (arith, c.digit_count.ensures), rw add-one (omega (arith, c.digit_count.ensures, c.loop-n.invariant.1, numbers_step s c.loop-n.n-index c.loop-n-test.true)))
