use Rattle.fusion.proofs.groups.Joining.{Seeking}
use Rattle.fusion.proofs.groups.first_joined.Given as goal

abbrev pub invariant-loop-j : goal.invariant-loop-j
invariant-loop-j l = Seeking l.tokens l.places l.i l.j
