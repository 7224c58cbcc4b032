-- `load::numerals::digits_value` meets its contract: the digits passed and those to come have the value, up to the cap. Assumes nothing.
use mathlib.Core.Path.{sym, ◌∙◌}
use native.Mathlib.Omega.{arith}
use Rattle.spec_tree.specs.Symbol.{is_digit}
use Rattle.node_rows.proofs.names.Leaves.{every_next, every_stop, every_end}
use Rattle.load.proofs.numerals.Reading.{value_next, value_end, digits_read, digits_bad}
use Rattle.load.proofs.numerals.digits_value.Goals as goal

pub returns-then-not-is_ascii_digit : goal.returns-then-not-is_ascii_digit
returns-then-not-is_ascii_digit c = digits_bad c.args.cap c.args.s.now (every_stop is_digit c.args.s.now c.loop-b.b-index c.loop-b-test.true (sym c.is_ascii_digit.ensures.value ∙ c.if-not-is_ascii_digit.true) c.loop-b.invariant.1)

pub loop-b-preserved : goal.loop-b-preserved
loop-b-preserved c = (omega arith, every_next is_digit c.args.s.now c.loop-b.b-index c.loop-b-test.true (sym c.is_ascii_digit.ensures.value ∙ c.if-not-is_ascii_digit.false) c.loop-b.invariant.1, value_next c.args.cap c.args.s.now c.loop-b.b-index c.loop-b.value c.loop-b.invariant.2 c.loop-b-test.true c.next_value-value.result c.next_value-value.ensures)

pub returns : goal.returns
returns c = digits_read c.args.cap c.args.s.now c.loop-b.value (every_end is_digit c.args.s.now c.loop-b.b-index c.loop-b-test.false c.loop-b.invariant.1) (value_end c.args.cap c.args.s.now c.loop-b.b-index c.loop-b.value c.loop-b.invariant.2 c.loop-b-test.false c.loop-b.invariant.0)
