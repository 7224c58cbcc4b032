-- `print::answers::in_scope` meets its contract: every word is tested, from the first. Assumes nothing.
use Rattle.std.proofs.Common.{sym, ◌∙◌}
use Rattle.laws.proofs.answer.WayLaws.{seen_next, seen_stops, seen_ends}
use Rattle.print.proofs.answers.in_scope.Goals as goal

pub returns-then-not-use_ok : goal.returns-then-not-use_ok
returns-then-not-use_ok c = sym (c.loop-i.invariant ∙ seen_stops c.args.words.now c.loop-i.i c.loop-i-test.true (sym c.use_ok.ensures ∙ c.if-not-use_ok.true))

pub loop-i-preserved : goal.loop-i-preserved
loop-i-preserved c = c.loop-i.invariant ∙ seen_next c.args.words.now c.loop-i.i c.loop-i-test.true (sym c.use_ok.ensures ∙ c.if-not-use_ok.false)

pub returns : goal.returns
returns c = sym (c.loop-i.invariant ∙ seen_ends c.args.words.now c.loop-i.i c.loop-i-test.false)
