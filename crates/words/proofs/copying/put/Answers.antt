-- `words::copying::put` meets its contract: the first k words are copied. Assumes nothing.
use Rattle.words.proofs.copying.Putting.{put_turns}
use Rattle.words.proofs.copying.put.Goals as goal

pub loop-k-preserved : goal.loop-k-preserved
loop-k-preserved c = put_turns c.requires c.loop-k.invariant c.loop-k-test.true
