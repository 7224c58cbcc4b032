-- `fusion::scopeneeds::Names::mark_reads` meets its contract: the places so far, with the words to come, are the whole. Assumes nothing.
use Rattle.fusion.proofs.scopeneeds.Marking.{read_turn, read_ends}
use Rattle.fusion.proofs.scopeneeds.Names.mark_reads.Goals as goal

pub loop-word-preserved : goal.loop-word-preserved
loop-word-preserved c = read_turn c.args.self.now.first c.args.self.now.lets c.args.self.now.numbers.now c.args.self.now.ends.now c.args.words.now c.args.row c.args.table.now c.loop-word.invariant c.loop-word-test.true _ c.mark_read.ensures

pub returns : goal.returns
returns c = read_ends c.args.self.now.first c.args.self.now.lets c.args.self.now.numbers.now c.args.self.now.ends.now c.args.words.now c.args.row c.args.table.now c.loop-word.invariant c.loop-word-test.false
