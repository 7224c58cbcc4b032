-- `print::answers::word_first` meets its contract. Assumes nothing.
use Rattle.std.proofs.Common.{sym, ◌∙◌}
use borrow.Author.Tests.{eqb-true, eqb-false, not-true, not-false}
use Rattle.fmt.specs.checked.Check.{rows_in}
use Rattle.laws.proofs.answer.RowFirst.{word_other, word_made, word_listed}
use Rattle.print.proofs.answers.word_first.Goals as goal
use Rattle.print.proofs.answers.word_first.Goals.{then-w-ne-SYM, else-w-ne-SYM}

pub returns-then-code-ne0 : goal.returns-then-code-ne0
returns-then-code-ne0 c =
    elim c.if-w-ne-SYM.branch [
      | then-w-ne-SYM w ↦ c.if-code-ne0.true ∙ word_other (rows_in c.args.rows.now) c.args.w w.if-w-ne-SYM.true
      | else-w-ne-SYM w ↦ c.if-code-ne0.true ∙ word_made (rows_in c.args.rows.now) c.args.w w.if-w-ne-SYM.false (eqb-false _ _ (not-true _ (sym w.value-is ∙ c.if-code-ne0.true)))
    ]

pub returns-else-code-ne0 : goal.returns-else-code-ne0
returns-else-code-ne0 c =
    elim c.if-w-ne-SYM.branch [
      | then-w-ne-SYM w ↦ absurd (w.if-w-ne-SYM.true (eqb-true _ _ (not-false _ (sym w.value-is ∙ c.if-code-ne0.false))))
      | else-w-ne-SYM w ↦ c.row_first.ensures ∙ word_listed (rows_in c.args.rows.now) c.args.w w.if-w-ne-SYM.false (eqb-true _ _ (not-false _ (sym w.value-is ∙ c.if-code-ne0.false)))
    ]
