-- `node_rows::fields::all_zero` meets its contract: the words so far put together are 0 where each of them is. Assumes nothing.
use Rattle.node_rows.proofs.fields.Zeros.{zeros_next, zeros_end}
use Rattle.node_rows.proofs.fields.all_zero.Goals as goal

pub loop-w-preserved : goal.loop-w-preserved
loop-w-preserved c = zeros_next c.args.words.now c.loop-w.any c.loop-w.w-index c.loop-w-test.true c.loop-w.invariant

pub returns : goal.returns
returns c = zeros_end c.args.words.now c.loop-w.any c.loop-w.w-index c.loop-w-test.false c.loop-w.invariant
