-- `print::lines::put_closing` meets its contract. Assumes nothing.
use Rattle.print.proofs.lines.RowLaws.{closing_result, closing_let}
use Rattle.print.proofs.lines.put_closing.Goals as goal

pub returns-then-w-eq-RESULT : goal.returns-then-w-eq-RESULT
returns-then-w-eq-RESULT c = closing_result c.args.w c.if-w-eq-RESULT.true c.put_bytes.ensures

pub returns : goal.returns
returns c = closing_let c.args.w c.if-w-eq-RESULT.false c.put_bytes-2.ensures
