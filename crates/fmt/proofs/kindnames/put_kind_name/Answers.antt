-- `fmt::kindnames::put_kind_name` meets its contract. Assumes nothing.
use Rattle.fmt.proofs.emit.WriteLaws.{writes_then, writes_as}
use Rattle.fmt.proofs.kindnames.put_kind_name.Goals as goal

pub returns : goal.returns
returns c = writes_then (writes_as _ _ c.kind_name.ensures c.put_bytes-at.ensures) c.put.ensures
