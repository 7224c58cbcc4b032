use lib.ListN.{length, take}
use Rattle.fusion.proofs.fuse.Fusing.{State}
use Rattle.fusion.proofs.fuse.steps.Given as goal

abbrev pub invariant-loop-k : goal.invariant-loop-k
invariant-loop-k l = State l.base l.places l.numbers (take l.len l.initial.work) (length l.initial.work) (length l.initial.spare) l.work l.spare l.k l.n
