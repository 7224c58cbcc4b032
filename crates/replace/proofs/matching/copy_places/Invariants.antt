use Rattle.std.proofs.Common.{◌+◌, ◌≤◌, ◌⊎◌, length}
use Rattle.replace.proofs.matching.Places.{Copied}
use Rattle.replace.proofs.matching.copy_places.Given as goal

abbrev pub invariant-loop-k : goal.invariant-loop-k
invariant-loop-k l = (f : (l.from + l.n ≤ length l.initial.places) × (l.to + l.n ≤ length l.initial.places)) × (a : (l.from + l.n ≤ l.to) ⊎ (l.to + l.n ≤ l.from)) × Copied l.initial.places l.from l.to l.n f a l.places l.k
