use Prim.Native.Nat.{◌-◌}
use mathlib.Core.Path.{◌≡◌}
use lib.ListN.{length}
use Rattle.csesheet.proofs.say_lines.Given as goal

abbrev pub invariant-loop-at : goal.invariant-loop-at
invariant-loop-at l = length l.out ≡ 65536

abbrev pub decreases-loop-at : goal.decreases-loop-at
decreases-loop-at l = length l.answer - l.at
