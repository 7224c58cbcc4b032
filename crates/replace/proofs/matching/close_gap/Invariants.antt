use Rattle.std.proofs.Common.{◌≤◌}
use Rattle.replace.proofs.matching.Places.{Moved}
use Rattle.replace.proofs.matching.close_gap.Given as goal

abbrev pub invariant-loop-k : goal.invariant-loop-k
invariant-loop-k l = (l.j ≤ l.k) × Moved l.initial.places l.places l.j l.k
