-- `print::depth::no_deeper` meets its contract. Assumes nothing.
use Rattle.std.proofs.Common.{refl, arith}
use Rattle.print.proofs.depth.Under.{begun, closed, entered, too_deep, all_read}
use Rattle.print.proofs.depth.no_deeper.Goals as goal

pub loop-w-init : goal.loop-w-init
loop-w-init c = begun c.args.rows.now _ refl

pub loop-below-preserved : goal.loop-below-preserved
loop-below-preserved c = (c.loop-w-test.true, closed c.loop-below.invariant.1 c.loop-w-test.true c.loop-below-test.true)

pub returns-then-level-eq-DEEPEST : goal.returns-then-level-eq-DEEPEST
returns-then-level-eq-DEEPEST c = too_deep c.loop-below.invariant.1 c.loop-w-test.true c.loop-below-test.false c.if-level-eq-DEEPEST.true

pub loop-w-preserved : goal.loop-w-preserved
loop-w-preserved c =
    rw c.stands_below-below.ensures.0 (entered c.loop-below.invariant.1 c.loop-w-test.true c.loop-below-test.false (omega (arith, c.loop-below.invariant.1.high, c.if-level-eq-DEEPEST.false)))

pub returns : goal.returns
returns c = all_read c.loop-w.invariant c.loop-w-test.false
