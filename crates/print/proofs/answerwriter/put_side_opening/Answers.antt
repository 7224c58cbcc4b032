-- `print::answerwriter::put_side_opening` meets its contract. Assumes nothing.
use Rattle.print.proofs.told.MarkLaws.{side_first, side_second}
use Rattle.print.specs.told.Pieces.{side_opening}
use Rattle.spec_tree.specs.Bytes.{bytes}
use Rattle.fmt.proofs.emit.WriteLaws.{writes_as}
use Rattle.print.proofs.answerwriter.put_side_opening.Goals as goal

pub returns-then-i-eq0 : goal.returns-then-i-eq0
returns-then-i-eq0 c = writes_as (bytes " >= 0 { ") (side_opening c.args.i) (side_first c.args.i c.if-i-eq0.true) c.put_bytes.ensures

pub returns : goal.returns
returns c = writes_as (bytes " } else { ") (side_opening c.args.i) (side_second c.args.i c.if-i-eq0.false) c.put_bytes-2.ensures
