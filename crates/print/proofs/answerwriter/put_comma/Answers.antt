-- `print::answerwriter::put_comma` meets its contract. Assumes nothing.
use Rattle.std.proofs.Common.{not, eqb}
use borrow.Author.Tests.{eqb-true, eqb-false, not-true, not-false}
use Rattle.spec_tree.specs.Bytes.{bytes}
use Rattle.fmt.proofs.emit.WriteLaws.{writes_as}
use Rattle.print.specs.told.Pieces.{comma}
use Rattle.print.proofs.told.MarkLaws.{marked, comma_first, comma_later}
use Rattle.print.proofs.answerwriter.put_comma.Goals as goal

pub returns : goal.returns
returns c =
    let a = c.args.i in
    writes_as _ (comma a)
    (marked (not (eqb a 0)) (bytes ", ") (comma a) (λ e. comma_later a (eqb-false a 0 (not-true _ e))) (λ e. comma_first a (eqb-true a 0 (not-false _ e))))
    c.put_if.ensures
