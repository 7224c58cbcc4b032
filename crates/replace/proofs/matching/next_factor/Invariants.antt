use Rattle.std.proofs.Common.{◌≡◌, ◌≤◌, length, drop}
use Rattle.replace.specs.matching.Matching.{factor_runs}
use Rattle.replace.proofs.matching.next_factor.Given as goal

abbrev pub invariant-loop-q : goal.invariant-loop-q
invariant-loop-q l = (l.from ≤ l.q) × (l.q ≤ length l.part) × (factor_runs (drop l.from l.part) ≡ factor_runs (drop l.q l.part))
