use Rattle.fusion.proofs.groups.Groups.{State}
use Rattle.fusion.proofs.groups.write_groups.Given as goal

abbrev pub invariant-loop-i : goal.invariant-loop-i
invariant-loop-i l = State l.tokens l.places l.initial.members l.initial.ends l.members l.ends l.count l.at l.i
