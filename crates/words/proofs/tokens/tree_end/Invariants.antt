use Prim.Native.Nat.{◌-◌}
use lib.ListN.{length}
use Rattle.words.proofs.tokens.Counting.{Ending}
use Rattle.words.proofs.tokens.tree_end.Given as goal

abbrev pub invariant-loop-due : goal.invariant-loop-due
invariant-loop-due l = Ending l.tokens l.at l.next l.due

abbrev pub decreases-loop-due : goal.decreases-loop-due
decreases-loop-due l = length l.tokens - l.next
