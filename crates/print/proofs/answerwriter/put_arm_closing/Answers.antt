-- `print::answerwriter::put_arm_closing` meets its contract. Assumes nothing.
use Rattle.spec_tree.specs.Bytes.{bytes}
use Rattle.fmt.proofs.emit.WriteLaws.{writes_as}
use Rattle.print.specs.told.Pieces.{arm_closing}
use Rattle.print.proofs.told.MarkLaws.{nothing, side_closes_none, side_closes, default_closes, unlisted_closes, arm_closes}
use Rattle.print.proofs.answerwriter.put_arm_closing.Goals as goal
use Rattle.std.proofs.Common.{sym, ◌∙◌}
use borrow.Author.Tests.{both_ways, eqb-true, eqb-false, clash}
use Rattle.print.proofs.answerwriter.put_arm_closing.Goals.{else-form-via-then-form+else-i-eq0, else-form-via-else-form, then-form-2-via-then-form-2, then-form-2-via-else-form-2+then-i-form, then-form-3, else-form-3}

pub returns-then-i-eq0 : goal.returns-then-i-eq0
returns-then-i-eq0 c =
    nothing (arm_closing c.args.form.bare c.args.form.defaulted c.args.form.count c.args.i) (side_closes_none c.args.form.bare c.args.form.defaulted c.args.form.count c.args.i c.if-form.true c.if-i-eq0.true) c.place.ensures

pub returns-then-form-2 : goal.returns-then-form-2
returns-then-form-2 c =
    writes_as (bytes " };") (arm_closing c.args.form.bare c.args.form.defaulted c.args.form.count c.args.i)
    (elim c.then-form-2.branch [
      | then-form-2-via-then-form-2 w ↦ elim c.else-form.branch [
        | else-form-via-then-form+else-i-eq0 v ↦ side_closes c.args.form.bare c.args.form.defaulted c.args.form.count c.args.i v.if-form.true v.if-i-eq0.false
        | else-form-via-else-form v ↦ absurd (both_ways c.args.form.bare v.if-form.false w.if-form-2.true)
      ]
      | then-form-2-via-else-form-2+then-i-form w ↦ elim w.if-form-3.branch [
        | then-form-3 v ↦ default_closes c.args.form.bare c.args.form.defaulted c.args.form.count c.args.i w.if-form-2.false v.if-form-3.true (eqb-true _ _ (sym v.value-is ∙ w.if-i-form.true))
        | else-form-3 v ↦ absurd (clash (sym v.if-form-3.false ∙ (sym v.value-is ∙ w.if-i-form.true)))
      ]
    ])
    c.put_bytes.ensures

pub returns : goal.returns
returns c =
    writes_as (bytes ",") (arm_closing c.args.form.bare c.args.form.defaulted c.args.form.count c.args.i)
    (elim c.if-form-3.branch [
      | then-form-3 v ↦ arm_closes c.args.form.bare c.args.form.defaulted c.args.form.count c.args.i c.if-form-2.false v.if-form-3.true (eqb-false _ _ (sym v.value-is ∙ c.if-i-form.false))
      | else-form-3 v ↦ unlisted_closes c.args.form.bare c.args.form.defaulted c.args.form.count c.args.i c.if-form-2.false v.if-form-3.false
    ])
    c.put.ensures
