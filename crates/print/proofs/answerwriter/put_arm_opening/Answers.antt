-- `print::answerwriter::put_arm_opening` meets its contract. Assumes nothing.
use Rattle.spec_tree.specs.Bytes.{bytes, decimal}
use Rattle.fmt.proofs.emit.WriteLaws.{writes_as}
use Rattle.print.specs.told.Pieces.{side_opening, arm_opening}
use Rattle.print.proofs.told.MarkLaws.{side_opens, default_opens, unlisted_opens, arm_opens}
use Rattle.print.proofs.answerwriter.put_arm_opening.Goals as goal
use Rattle.std.proofs.Common.{◌++◌}
use Rattle.print.proofs.answerwriter.put_arm_opening.Goals.{else-form-2-via-then-form-2+else-i-form, else-form-2-via-else-form-2}

pub returns-then-form : goal.returns-then-form
returns-then-form c = writes_as (side_opening c.args.i) (arm_opening c.args.form.bare c.args.form.defaulted c.args.form.count c.args.i) (side_opens c.args.form.bare c.args.form.defaulted c.args.form.count c.args.i c.if-form.true) c.put_side_opening.ensures

pub returns-then-i-form : goal.returns-then-i-form
returns-then-i-form c =
    writes_as (bytes " _ => ") (arm_opening c.args.form.bare c.args.form.defaulted c.args.form.count c.args.i) (default_opens c.args.form.bare c.args.form.defaulted c.args.form.count c.args.i c.if-form.false c.if-form-2.true c.if-i-form.true) c.put_bytes.ensures

pub returns : goal.returns
returns c =
    writes_as (bytes " " ++ (decimal c.args.i ++ bytes " => ")) (arm_opening c.args.form.bare c.args.form.defaulted c.args.form.count c.args.i)
    (elim c.else-form-2.branch [
      | else-form-2-via-then-form-2+else-i-form w ↦ arm_opens c.args.form.bare c.args.form.defaulted c.args.form.count c.args.i c.if-form.false w.if-form-2.true w.if-i-form.false
      | else-form-2-via-else-form-2 w ↦ unlisted_opens c.args.form.bare c.args.form.defaulted c.args.form.count c.args.i c.if-form.false w.if-form-2.false
    ])
    c.put_number.ensures
