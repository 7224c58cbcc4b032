use Rattle.fusion.proofs.switches.Listed.{State}
use Rattle.fusion.proofs.switches.list.Given as goal

abbrev pub invariant-loop-p : goal.invariant-loop-p
invariant-loop-p l = State l.tokens l.initial.places l.places l.n l.p
