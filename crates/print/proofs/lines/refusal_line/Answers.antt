-- `print::lines::refusal_line` meets its contract. Assumes nothing.
use Rattle.print.proofs.lines.Refusing.{refusal_written}
use Rattle.print.proofs.lines.refusal_line.Goals as goal

pub returns : goal.returns
returns c = refusal_written c.args.number c.args.«record» c.put_bytes-a.ensures c.put_decimal-b.ensures c.put_bytes-c.ensures c.put_decimal-d.ensures c.put_bytes.ensures
