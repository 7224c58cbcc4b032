use Rattle.fusion.proofs.scopeneeds.Marking.{Reading}
use Rattle.fusion.proofs.scopeneeds.Names.mark_reads.Given as goal

abbrev pub invariant-loop-word : goal.invariant-loop-word
invariant-loop-word l = Reading l.self.first l.self.lets l.self.numbers.now l.self.ends.now l.words l.row l.initial.table l.table l.word-index
