use Rattle.fusion.proofs.scopeneeds.Arms.{Arming}
use Rattle.fusion.proofs.scopeneeds.Names.mark_arms.Given as goal

abbrev pub invariant-loop-place : goal.invariant-loop-place
invariant-loop-place l = Arming l.self.first l.self.lets l.self.numbers.now l.self.ends.now l.tokens l.group l.row l.initial.table l.table l.place-index
