use Rattle.std.proofs.Common.{◌≡◌, ℕ, ◌<◌, length, get_or}
use Rattle.topo_sort.specs.Needs.{columns}
use Rattle.topo_sort.proofs.count_all.Given as goal

abbrev pub invariant-loop-j : goal.invariant-loop-j
invariant-loop-j l = (k : ℕ) → k < l.j → get_or l.waiting k 0 ≡ length (columns l.needs k 0 l.count)
