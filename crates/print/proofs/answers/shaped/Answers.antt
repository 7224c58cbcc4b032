-- `print::answers::shaped` meets its contract. Assumes nothing.
use Rattle.fmt.specs.checked.Check.{rows_in}
use Rattle.laws.proofs.answer.CodeLaws.{answer_none}
use Rattle.print.proofs.answers.Ends.{shaped_tells}
use Rattle.print.proofs.answers.shaped.Goals as goal

pub returns-in_default : goal.returns-in_default
returns-in_default c = answer_none (rows_in c.args.rows.now) c.args.words.now c.in_default.ensures

pub returns : goal.returns
returns c = shaped_tells (rows_in c.args.rows.now) c.args.words.now c.results.result c.in-Some.s.count c.in-Some.s.end c.in-Some.ensures.0.2 c.results.ensures
