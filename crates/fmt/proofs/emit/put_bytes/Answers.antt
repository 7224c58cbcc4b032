-- `fmt::emit::put_bytes` meets its contract: so many bytes are written. Assumes nothing.
use Rattle.fmt.proofs.emit.TextLaws.{bytes_begin, bytes_turn, bytes_end}
use Rattle.fmt.proofs.emit.WriteLaws.{writes_length}
use Rattle.fmt.proofs.emit.put_bytes.Goals as goal

pub loop-b-init : goal.loop-b-init
loop-b-init c = bytes_begin c.args.s.now c.place-at.result c.place-at.ensures

pub loop-b-preserved : goal.loop-b-preserved
loop-b-preserved c = bytes_turn c.args.s.now c.loop-b-test.true c.loop-b.invariant c.put-at.ensures

pub shape_of-out : goal.shape_of-out
shape_of-out c = writes_length c.loop-b.invariant

pub returns : goal.returns
returns c = bytes_end c.args.s.now c.loop-b-test.false c.loop-b.invariant
