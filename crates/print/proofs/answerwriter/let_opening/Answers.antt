-- `print::answerwriter::let_opening` meets its contract. Assumes nothing.
use Rattle.print.proofs.answerwriter.StatementLaws.{opening_written}
use Rattle.print.proofs.answerwriter.let_opening.Goals as goal

pub returns : goal.returns
returns c = opening_written _ c.put_bytes-a.ensures c.put_name-b.ensures c.put_bytes.ensures
