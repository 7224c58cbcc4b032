use mathlib.Core.Path.{◌≡◌}
use mathlib.Core.List.{List}
use Prim.Native.Nat.{ℕ, ◌-◌}
use lib.ListN.{length}
use Rattle.topo_sort.specs.links.Links.{Linked}
use Rattle.topo_sort.proofs.Loops.{Taking}
use Rattle.topo_sort.proofs.links.take_linked.Given as goal

abbrev pub invariant-loop-top : goal.invariant-loop-top
invariant-loop-top l = ((needs : List ℕ) → Linked needs l.count l.heads l.links l.initial.waiting → Taking needs l.count l.initial.taken l.waiting l.stack l.taken l.top l.n) × ((length l.waiting ≡ length l.initial.waiting) × (length l.stack ≡ length l.initial.stack))

abbrev pub decreases-loop-top : goal.decreases-loop-top
decreases-loop-top l = l.count - l.n
