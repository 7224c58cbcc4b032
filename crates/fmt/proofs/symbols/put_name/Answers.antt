-- `fmt::symbols::put_name` meets its contract. Assumes nothing.
use Rattle.std.proofs.Common.{ap, arith}
use Rattle.fmt.specs.emit.Writing.{low_bytes}
use Rattle.fmt.proofs.emit.WriteLaws.{writes_as}
use Rattle.fmt.proofs.symbols.NameLaws.{list_written, made_written, match_written}
use Rattle.fmt.proofs.symbols.put_name.Goals as goal

pub returns-in-0 : goal.returns-in-0
returns-in-0 c = list_written c.args.rows.now c.args.code c.in-0.is (writes_as _ _ (ap low_bytes c.row_name.ensures) c.put_words.ensures)

pub returns-in-1 : goal.returns-in-1
returns-in-1 c = made_written c.args.rows.now c.args.code c.in-1.is c.put_bytes-at.ensures c.put_decimal.ensures

pub returns-in_default : goal.returns-in_default
returns-in_default c = match_written c.args.rows.now c.args.code (omega arith) c.put_bytes-at-in_default.ensures c.put_decimal-in_default.ensures
