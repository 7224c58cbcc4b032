use Prim.Native.Nat.{◌-◌}
use mathlib.Core.Path.{◌≡◌}
use lib.ListN.{length}
use Rattle.topo_sort.proofs.Loops.{Taking}
use Rattle.topo_sort.proofs.take_all.Given as goal

abbrev pub invariant-loop-top : goal.invariant-loop-top
invariant-loop-top l = Taking l.needs l.count l.initial.taken l.waiting l.stack l.taken l.top l.n × ((length l.waiting ≡ length l.initial.waiting) × (length l.stack ≡ length l.initial.stack))

abbrev pub decreases-loop-top : goal.decreases-loop-top
decreases-loop-top l = l.count - l.n
