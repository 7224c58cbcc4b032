-- `print::answerwriter::put_tuple_opening` meets its contract. Assumes nothing.
use Rattle.std.proofs.Common.{not, eqb}
use borrow.Author.Tests.{eqb-true, eqb-false, not-true, not-false}
use Rattle.spec_tree.specs.Bytes.{bytes}
use Rattle.fmt.proofs.emit.WriteLaws.{writes_as}
use Rattle.print.specs.told.Pieces.{tuple_opening}
use Rattle.print.proofs.told.MarkLaws.{marked, opening_one, opening_many}
use Rattle.print.proofs.answerwriter.put_tuple_opening.Goals as goal

pub returns : goal.returns
returns c =
    let a = c.args.n in
    writes_as _ (tuple_opening a)
    (marked (not (eqb a 1)) (bytes "(") (tuple_opening a) (λ e. opening_many a (eqb-false a 1 (not-true _ e))) (λ e. opening_one a (eqb-true a 1 (not-false _ e))))
    c.put_if.ensures
