-- `print::answerwriter::put_number` meets its contract. Assumes nothing.
use Rattle.fmt.proofs.emit.WriteLaws.{writes_then}
use Rattle.print.proofs.answerwriter.put_number.Goals as goal

pub returns : goal.returns
returns c = writes_then c.put-a.ensures (writes_then c.put_decimal-e.ensures c.put_bytes.ensures)
