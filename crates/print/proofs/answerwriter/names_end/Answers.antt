-- `print::answerwriter::names_end` meets its contract: so many names were met. Assumes nothing.
use Rattle.std.proofs.Common.{◌≡◌, length, ◌∙◌, arith}
use Rattle.print.proofs.answerwriter.BindingLaws.{met_turn, met_other, met_past}
use Rattle.print.proofs.answerwriter.names_end.Goals as goal

pub returns-then-words-i-ne-NAME : goal.returns-then-words-i-ne-NAME
returns-then-words-i-ne-NAME c = met_other c.args.words.now c.args.at _ c.loop-i.invariant c.loop-i-test.true c.if-words-i-ne-NAME.true

pub loop-i-preserved : goal.loop-i-preserved
loop-i-preserved c = met_turn c.args.words.now c.args.at _ c.loop-i.invariant c.loop-i-test.true c.if-words-i-ne-NAME.false

pub returns : goal.returns
returns c =
    let z : length c.args.words.now ≡ c.loop-i.i = omega (arith, c.loop-i.invariant.1, c.loop-i-test.false) in
    z ∙ met_past c.args.words.now c.args.at _ c.loop-i.invariant c.loop-i-test.false
