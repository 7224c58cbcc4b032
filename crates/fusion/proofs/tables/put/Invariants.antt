use Rattle.fusion.proofs.tables.Putting.{Put}
use Rattle.fusion.proofs.tables.put.Given as goal

abbrev pub invariant-loop-i : goal.invariant-loop-i
invariant-loop-i l = Put l.words l.at l.initial.table l.table l.i
