use Rattle.fusion.specs.tables.Names.{rows_of_names}
use Rattle.fusion.proofs.tables.Putting.{Put}
use Rattle.fusion.proofs.tables.write_names.Given as goal

abbrev pub invariant-loop-i : goal.invariant-loop-i
invariant-loop-i l = Put (rows_of_names l.numbers) l.at l.initial.table l.table l.i
