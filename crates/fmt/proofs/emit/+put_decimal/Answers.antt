-- `fmt::emit::put_decimal` meets its contract; the number falls. Assumes nothing.
use Rattle.fmt.proofs.emit.TextLaws.{digit_written, digits_written}
use Rattle.fmt.proofs.emit.+put_decimal.Goals as goal

pub returns-then-n-lt10 : goal.returns-then-n-lt10
returns-then-n-lt10 t c = digit_written c.args.n c.if-n-lt10.true c.put.ensures

pub returns : goal.returns
returns t c = digits_written c.args.n c.if-n-lt10.false c.put_decimal-at.ensures c.put-2.ensures
