-- `print::answerwriter::put_brace_opening` meets its contract. Assumes nothing.
use Rattle.std.proofs.Common.{sym, ◌∙◌}
use borrow.Author.Tests.{eqb-false, not-true, not-false}
use Rattle.spec_tree.specs.Bytes.{bytes}
use Rattle.fmt.proofs.emit.WriteLaws.{writes_as}
use Rattle.print.specs.told.Pieces.{brace_opening}
use Rattle.print.proofs.told.MarkLaws.{marked, no_brace, bare_brace, brace}
use Rattle.print.proofs.answerwriter.put_brace_opening.Goals as goal
use Rattle.print.proofs.answerwriter.put_brace_opening.Goals.{then-n-ne0, else-n-ne0}

pub returns : goal.returns
returns c =
    let bare = c.args.bare in
    let n = c.args.n in
    writes_as _ (brace_opening bare n)
    (marked c.if-n-ne0.braced (bytes "{ ") (brace_opening bare n)
    (λ e. elim c.if-n-ne0.branch [
      | then-n-ne0 w ↦ brace bare n w.if-n-ne0.true (not-true _ (sym w.braced-is ∙ e))
      | else-n-ne0 w ↦ absurd (eqb-false n 0 (not-true _ (sym w.braced-is ∙ e)) w.if-n-ne0.false)
    ])
    (λ e. elim c.if-n-ne0.branch [
      | then-n-ne0 w ↦ bare_brace bare n (not-false _ (sym w.braced-is ∙ e))
      | else-n-ne0 w ↦ no_brace bare n w.if-n-ne0.false
    ]))
    c.put_if.ensures
