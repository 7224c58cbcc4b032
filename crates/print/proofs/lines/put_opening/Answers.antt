-- `print::lines::put_opening` meets its contract. Assumes nothing.
use Rattle.print.proofs.lines.RowLaws.{opening_none, opening_let}
use Rattle.print.proofs.lines.put_opening.Goals as goal

pub returns-then-w-eq-RESULT : goal.returns-then-w-eq-RESULT
returns-then-w-eq-RESULT c = let a = c.args in opening_none a.w a.rows.now c.if-w-eq-RESULT.true c.place.ensures

pub returns : goal.returns
returns c = let a = c.args in
    opening_let a.w a.rows.now c.if-w-eq-RESULT.false c.let_opening.ensures
