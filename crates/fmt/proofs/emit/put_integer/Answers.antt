-- `fmt::emit::put_integer` meets its contract. Assumes nothing.
use Rattle.fmt.proofs.emit.TextLaws.{plain_written, minus_written}
use Rattle.fmt.proofs.emit.put_integer.Goals as goal

pub returns-then-code-eq0 : goal.returns-then-code-eq0
returns-then-code-eq0 c = plain_written c.args.code c.if-code-eq0.true c.put_decimal.ensures

pub returns : goal.returns
returns c = minus_written c.args.code c.if-code-eq0.false c.put-at.ensures c.put_decimal-2.ensures
