-- `print::lines::begins` meets its contract. Assumes nothing.
use Rattle.std.proofs.Common.{get_or, ◌∙◌}
use borrow.Author.Tests.{eq-eqb, ne_eqb}
use Rattle.print.proofs.lines.RowLaws.{starts_past, starts_result, starts_other, starts_let}
use Rattle.print.proofs.lines.begins.Goals as goal

pub returns-then-at-answer : goal.returns-then-at-answer
returns-then-at-answer c = starts_past c.args.answer.now c.args.at c.if-at-answer.true

pub returns-then-w-eq-RESULT : goal.returns-then-w-eq-RESULT
returns-then-w-eq-RESULT c = eq-eqb _ _ c.if-w-eq-RESULT.true ∙ starts_result (get_or c.args.answer.now c.args.at 0) c.if-w-eq-RESULT.true

pub returns-then-w-eq-LET : goal.returns-then-w-eq-LET
returns-then-w-eq-LET c = starts_let (get_or c.args.answer.now c.args.at 0) c.if-w-eq-RESULT.false c.if-w-eq-LET.true

pub returns-else-w-eq-LET : goal.returns-else-w-eq-LET
returns-else-w-eq-LET c = ne_eqb _ _ c.if-w-eq-LET.false ∙ starts_other (get_or c.args.answer.now c.args.at 0) c.if-w-eq-RESULT.false c.if-w-eq-LET.false
