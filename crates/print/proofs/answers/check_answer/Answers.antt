-- `print::answers::check_answer` meets its contract. Assumes nothing.
use Rattle.std.proofs.Common.{Bool, ◌&&◌, ◌∙◌, ap}
use Rattle.fmt.specs.checked.Check.{rows_in}
use Rattle.spec_cse.specs.AnswerRows.{rows_of_answer, answer_laid_out}
use Rattle.print.proofs.answers.check_answer.Goals as goal

pub returns-then-no_deeper : goal.returns-then-no_deeper
unfolding answer_laid_out
returns-then-no_deeper c = c.rows_of_answer.ensures ∙ ap (λ (b : Bool). b && rows_of_answer (rows_in c.args.node_rows.now) c.args.answer.now) c.if-no_deeper.ensures

pub returns-else-no_deeper : goal.returns-else-no_deeper
unfolding answer_laid_out
returns-else-no_deeper c = c.if-no_deeper.false ∙ ap (λ (b : Bool). b && rows_of_answer (rows_in c.args.node_rows.now) c.args.answer.now) c.if-no_deeper.ensures
