-- `print::answers::span_end` meets its contract: a word passed is one span fewer, and those below it more. Assumes nothing.
use Rattle.std.proofs.Common.{◌+◌, ◌-◌, arith}
use Rattle.laws.proofs.answer.WayLaws.{left_next, left_over, left_ends}
use Rattle.print.proofs.answers.span_end.Goals as goal

pub returns-then-left-eq0 : goal.returns-then-left-eq0
returns-then-left-eq0 c =
    let words = c.args.words.now in
    let next = left_next words c.args.at c.loop-i.i c.loop-i.left c.loop-i.auto.i c.loop-i.invariant.0 c.loop-i.invariant.2 c.stands_below.result (omega (arith, c.loop-i-test.true, c.requires.1)) c.stands_below.ensures.0 in
    left_ends words c.args.at (c.loop-i.i + 1) (c.loop-i.left - 1 + c.stands_below.result) c.args.by (omega (arith, c.loop-i.auto.i)) (omega (arith, c.loop-i-test.true)) (omega (arith, c.if-left-eq0.true)) next

pub returns-then-left-by : goal.returns-then-left-by
returns-then-left-by c =
    let words = c.args.words.now in
    let next = left_next words c.args.at c.loop-i.i c.loop-i.left c.loop-i.auto.i c.loop-i.invariant.0 c.loop-i.invariant.2 c.stands_below.result (omega (arith, c.loop-i-test.true, c.requires.1)) c.stands_below.ensures.0 in
    left_over words c.args.at (c.loop-i.i + 1) (c.loop-i.left - 1 + c.stands_below.result) (omega (arith, c.loop-i.auto.i)) (omega (arith, c.if-left-eq0.false)) next c.args.by c.if-left-by.true (omega (arith, c.loop-i-test.true))

pub loop-i-preserved : goal.loop-i-preserved
loop-i-preserved c = (
  omega (arith, c.if-left-eq0.false),
  λ h. c.if-left-by.false,
  left_next c.args.words.now c.args.at c.loop-i.i c.loop-i.left c.loop-i.auto.i c.loop-i.invariant.0 c.loop-i.invariant.2 c.stands_below.result (omega (arith, c.loop-i-test.true, c.requires.1)) c.stands_below.ensures.0,
)

pub returns : goal.returns
returns c =
    left_over c.args.words.now c.args.at c.loop-i.i c.loop-i.left c.loop-i.auto.i c.loop-i.invariant.0 c.loop-i.invariant.2 c.args.by
    (omega (arith, c.loop-i-test.false, c.loop-i.invariant.0))
    (omega (arith, c.loop-i.auto.i-end, c.requires.0))
