use Prim.Native.Nat.{ℕ, ◌≤◌}
use mathlib.Core.Path.{◌≡◌}
use mathlib.Core.List.{List}
use lib.ListN.{length}
use Rattle.topo_sort.specs.links.Links.{Joinable}
use Rattle.topo_sort.proofs.links.Following.{Following}
use Rattle.topo_sort.proofs.links.join_linked.Given as goal

abbrev pub invariant-loop-h : goal.invariant-loop-h
invariant-loop-h l = ((l.h ≤ length l.links) × ((length l.waiting ≡ length l.initial.waiting) × (length l.stack ≡ length l.initial.stack)))
    × ((rules : List ℕ) (count i : ℕ) (j : Joinable rules count i l.links l.head l.initial.waiting l.initial.stack l.top) → Following rules count i l.links l.head l.initial.waiting l.initial.stack l.top j l.waiting l.stack l.t l.h)

abbrev pub decreases-loop-h : goal.decreases-loop-h
decreases-loop-h l = l.h
