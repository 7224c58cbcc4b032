-- `node_rows::records::digit_count` meets its contract: the digits counted and those still to come are those of the number. Assumes nothing.
use native.Mathlib.Omega.{arith}
use Rattle.spec_tree.proofs.Digits.{one_digit, more_digits, digits_20}
use Rattle.node_rows.proofs.records.digit_count.Goals as goal

pub loop-m-init : goal.loop-m-init
loop-m-init c = (omega arith, digits_20 c.args.n (omega arith))

pub loop-m-preserved : goal.loop-m-preserved
loop-m-preserved c = (omega (arith, more_digits c.loop-m.m c.loop-m-test.true), c.loop-m.invariant.1)

pub returns : goal.returns
returns c = (omega (arith, one_digit c.loop-m.m c.loop-m-test.false), omega (arith, one_digit c.loop-m.m c.loop-m-test.false))
