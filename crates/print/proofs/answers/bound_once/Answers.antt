-- `print::answers::bound_once` meets its contract: every row is compared with those after it. Assumes nothing.
use Rattle.std.proofs.Common.{sym, ◌∙◌}
use Rattle.laws.proofs.answer.WayLaws.{once_next, once_stops, once_ends}
use Rattle.print.proofs.answers.bound_once.Goals as goal

pub returns-then-repeated : goal.returns-then-repeated
returns-then-repeated c = sym (c.loop-i.invariant ∙ once_stops c.args.words.now c.loop-i.i c.loop-i-test.true (sym c.repeated.ensures ∙ c.if-repeated.true))

pub loop-i-preserved : goal.loop-i-preserved
loop-i-preserved c = c.loop-i.invariant ∙ once_next c.args.words.now c.loop-i.i c.loop-i-test.true (sym c.repeated.ensures ∙ c.if-repeated.false)

pub returns : goal.returns
returns c = sym (c.loop-i.invariant ∙ once_ends c.args.words.now c.loop-i.i c.loop-i-test.false)
