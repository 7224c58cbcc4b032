-- `print::answers::use_ok` meets its contract. Assumes nothing.
use Rattle.std.proofs.Common.{sym, ◌∙◌}
use borrow.Author.Tests.{eqb-true, eqb-false, not-false}
use Rattle.laws.proofs.answer.WayLaws.{use_other, use_listed, use_made}
use Rattle.print.proofs.answers.use_ok.Goals as goal
use Rattle.print.proofs.answers.use_ok.Goals.{then-w-ne-SYM, else-w-ne-SYM}

pub returns-then-code-eq0 : goal.returns-then-code-eq0
returns-then-code-eq0 c =
    elim c.if-w-ne-SYM.branch [
      | then-w-ne-SYM w ↦ c.if-code-eq0.true ∙ use_other c.args.words.now c.args.at w.if-w-ne-SYM.true
      | else-w-ne-SYM w ↦ c.if-code-eq0.true ∙ use_listed c.args.words.now c.args.at w.if-w-ne-SYM.false (eqb-true _ _ (sym w.value-is ∙ c.if-code-eq0.true))
    ]

pub returns-else-code-eq0 : goal.returns-else-code-eq0
returns-else-code-eq0 c =
    elim c.if-w-ne-SYM.branch [
      | then-w-ne-SYM w ↦ absurd (w.if-w-ne-SYM.true (eqb-true _ _ (not-false _ (sym w.value-is ∙ c.if-code-eq0.false))))
      | else-w-ne-SYM w ↦ c.bound_at.ensures ∙ use_made c.args.words.now c.args.at w.if-w-ne-SYM.false (eqb-false _ _ (sym w.value-is ∙ c.if-code-eq0.false))
    ]
