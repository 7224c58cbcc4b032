-- `print::answers::results` meets its contract: what is left is results exactly where it was from the start. Assumes nothing.
use Rattle.std.proofs.Common.{arith}
use Rattle.fmt.specs.checked.Check.{rows_in}
use Rattle.laws.proofs.answer.CodeLaws.{results_other, results_broken, results_next, results_done}
use Rattle.print.proofs.answers.results.Goals as goal

pub returns-then-words-i-ne-RESULT : goal.returns-then-words-i-ne-RESULT
returns-then-words-i-ne-RESULT c = λ f. results_other (rows_in c.args.rows.now) c.args.words.now c.loop-i.i c.loop-i-test.true c.if-words-i-ne-RESULT.true (c.loop-i.invariant.2 f)

pub returns-in_default : goal.returns-in_default
returns-in_default c = λ f. results_broken (rows_in c.args.rows.now) c.args.words.now c.loop-i.i c.loop-i-test.true c.in_default.ensures (c.loop-i.invariant.2 f)

pub loop-i-smaller : goal.loop-i-smaller
loop-i-smaller c = omega (arith, c.loop-i-test.true, c.in-Some.ensures.0, c.in-Some.ensures.1)

pub loop-i-preserved : goal.loop-i-preserved
loop-i-preserved c =
    let n = results_next (rows_in c.args.rows.now) c.args.words.now c.loop-i.i c.in-Some.end c.loop-i-test.true c.if-words-i-ne-RESULT.false c.in-Some.ensures.2 in
    (omega (arith, c.loop-i.invariant.0, c.in-Some.ensures.0), c.in-Some.ensures.1, λ f. n.0 (c.loop-i.invariant.2 f), λ f. c.loop-i.invariant.3 (n.1 f))

pub returns : goal.returns
returns c = c.loop-i.invariant.3 (results_done (rows_in c.args.rows.now) c.args.words.now c.loop-i.i c.loop-i-test.false)
