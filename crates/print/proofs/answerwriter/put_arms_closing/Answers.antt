-- `print::answerwriter::put_arms_closing` meets its contract. Assumes nothing.
use Rattle.std.proofs.Common.{sym, ◌∙◌}
use borrow.Author.Tests.{both_ways, not-true, not-false}
use Rattle.spec_tree.specs.Bytes.{bytes}
use Rattle.fmt.proofs.emit.WriteLaws.{writes_as}
use Rattle.print.specs.told.Pieces.{arms_closing}
use Rattle.print.proofs.told.MarkLaws.{marked, bare_ends, default_ends, panic_ends}
use Rattle.print.proofs.answerwriter.put_arms_closing.Goals as goal
use Rattle.print.proofs.answerwriter.put_arms_closing.Goals.{then-not-form, else-not-form}

pub returns : goal.returns
returns c =
    let bare = c.args.form.bare in
    let d = c.args.form.defaulted in
    writes_as _ (arms_closing bare d)
    (marked c.if-not-form.open (bytes " _ => panic };") (arms_closing bare d)
    (λ e. elim c.if-not-form.branch [
      | then-not-form w ↦ panic_ends bare d (not-true _ w.if-not-form.true) (not-true _ (sym w.open-is ∙ e))
      | else-not-form w ↦ absurd (both_ways bare (not-true _ (sym w.open-is ∙ e)) (not-false _ w.if-not-form.false))
    ])
    (λ e. elim c.if-not-form.branch [
      | then-not-form w ↦ default_ends bare d (not-true _ w.if-not-form.true) (not-false _ (sym w.open-is ∙ e))
      | else-not-form w ↦ bare_ends bare d (not-false _ w.if-not-form.false)
    ]))
    c.put_if.ensures
