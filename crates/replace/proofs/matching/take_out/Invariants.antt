use Rattle.replace.proofs.matching.Removing.{Turning}
use Rattle.replace.proofs.matching.take_out.Given as goal

abbrev pub invariant-loop-times : goal.invariant-loop-times
invariant-loop-times l = Turning l.tokens l.part l.name l.initial.places l.count l.places l.left l.times
