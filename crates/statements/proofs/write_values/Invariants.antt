use Rattle.statements.proofs.Writing.{Laid, value}
use Rattle.statements.proofs.write_values.Given as goal

abbrev pub invariant-loop-i : goal.invariant-loop-i
invariant-loop-i l = Laid (value l.tokens l.results l.first l.places l.numbers l.row) l.at l.initial.table l.table l.to l.i
