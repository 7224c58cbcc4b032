-- `load::fields::copy_bytes` meets its contract: the first i bytes are copied. Assumes nothing.
use mathlib.Core.Path.{◌∙◌}
use lib.ListN.{length-set}
use Rattle.load.proofs.fields.Copies.{copied_next}
use Rattle.load.proofs.fields.copy_bytes.Goals as goal

pub loop-i-preserved : goal.loop-i-preserved
loop-i-preserved c = (length-set c.loop-i.out c.loop-i.i c.from.result ∙ c.loop-i.invariant.0, copied_next c.args.s.now c.args.out.now c.loop-i.out c.loop-i.i c.from.result c.if-s-out.false c.loop-i.invariant.1 c.loop-i-test.true c.from.ensures)
