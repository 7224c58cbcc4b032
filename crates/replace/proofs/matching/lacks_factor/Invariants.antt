use Rattle.std.proofs.Common.{◌-◌, length}
use Rattle.replace.proofs.matching.Removing.{Before}
use Rattle.replace.proofs.matching.lacks_factor.Given as goal

abbrev pub invariant-loop-q : goal.invariant-loop-q
invariant-loop-q l = Before l.part l.q

abbrev pub decreases-loop-q : goal.decreases-loop-q
decreases-loop-q l = length l.part - l.q
