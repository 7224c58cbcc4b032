use Rattle.fusion.proofs.groups.Members.{State}
use Rattle.fusion.proofs.groups.write_group.Given as goal

abbrev pub invariant-loop-j : goal.invariant-loop-j
invariant-loop-j l = State l.tokens l.places l.i l.initial.members l.members l.n l.j
