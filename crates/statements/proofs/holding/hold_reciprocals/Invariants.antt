use Rattle.statements.proofs.holding.Gathering.{Gathered}
use Rattle.statements.proofs.holding.hold_reciprocals.Given as goal

abbrev pub invariant-loop-j : goal.invariant-loop-j
invariant-loop-j l = Gathered l.tokens l.places l.first l.len l.initial.work l.work l.n l.j
