-- `node_rows::unfolded::bucket_of` meets its contract: with the sums so far, what is left gives the whole's bucket. Assumes nothing.
use native.Mathlib.Omega.{arith}
use Rattle.node_rows.proofs.unfolded.ChainLaws.{mixing_next, mixing_end}
use Rattle.node_rows.proofs.unfolded.bucket_of.Goals as goal

pub loop-b-preserved : goal.loop-b-preserved
loop-b-preserved c = (omega (arith, c.loop-b.invariant.0), omega (arith, c.loop-b.invariant.0, c.loop-b.invariant.1, c.requires), mixing_next c.args.name.now c.loop-b.sum c.loop-b.sums c.loop-b.b-index c.loop-b-test.true c.loop-b.invariant.2)

pub returns : goal.returns
returns c = (mixing_end c.args.name.now c.loop-b.sum c.loop-b.sums c.loop-b.b-index c.loop-b-test.false c.loop-b.invariant.2, omega arith)
