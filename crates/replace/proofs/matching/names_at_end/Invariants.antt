use Rattle.std.proofs.Common.{◌≡◌, ◌-◌, length, drop}
use Rattle.replace.specs.matching.Matching.{names_after}
use Rattle.replace.proofs.matching.names_at_end.Given as goal

abbrev pub invariant-loop-k : goal.invariant-loop-k
invariant-loop-k l = names_after l.limit (drop l.k l.places) ≡ length l.places - l.k
