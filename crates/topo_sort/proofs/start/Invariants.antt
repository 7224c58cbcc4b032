use Prim.Native.Nat.{ℕ, ◌≤◌, ◌<◌}
use mathlib.Core.Path.{◌≡◌}
use mathlib.Core.List.{List}
use lib.ListN.{length, get_or}
use Rattle.topo_sort.specs.Needs.{columns}
use Rattle.topo_sort.proofs.Loops.{Starting}
use Rattle.topo_sort.proofs.start.Given as goal

abbrev pub invariant-loop-j : goal.invariant-loop-j
invariant-loop-j l = ((l.top ≤ l.j) × ((l.j ≤ l.count) × (length l.stack ≡ length l.initial.stack)))
    × ((rules : List ℕ) → ((k : ℕ) → k < l.count → get_or l.waiting k 0 ≡ length (columns rules k 0 l.count)) → Starting rules l.count l.waiting l.initial.stack l.waiting l.stack l.top l.j)
