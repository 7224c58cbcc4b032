use lib.ListN.{length, take}
use Rattle.reciprocals.proofs.settle.Settling.{State}
use Rattle.reciprocals.proofs.settle.steps.Given as goal

abbrev pub invariant-loop-k : goal.invariant-loop-k
invariant-loop-k l = State l.base l.places l.from l.first (take l.len l.initial.work) (length l.initial.work) (length l.initial.spare) l.work l.spare l.k l.n
