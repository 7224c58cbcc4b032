use Rattle.fusion.proofs.switches.Among.{Seeking}
use Rattle.fusion.proofs.switches.is_among.Given as goal

abbrev pub invariant-loop-p : goal.invariant-loop-p
invariant-loop-p l = Seeking l.tokens l.list l.q l.p-index
