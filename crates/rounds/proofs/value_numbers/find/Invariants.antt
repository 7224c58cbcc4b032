use Prim.Native.Nat.{◌-◌}
use lib.ListN.{length}
use Rattle.rounds.specs.value_numbers.Tables.{Chase}
use Rattle.rounds.proofs.value_numbers.find.Given as goal

abbrev pub invariant-loop-p : goal.invariant-loop-p
invariant-loop-p l = Chase l.tokens l.i l.p

abbrev pub decreases-loop-p : goal.decreases-loop-p
decreases-loop-p l = length l.tokens - l.p
