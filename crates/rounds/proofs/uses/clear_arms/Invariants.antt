use Prim.Native.Nat.{◌≤◌}
use lib.ListN.{length}
use Rattle.rounds.specs.uses.Marks.{Marking, not_in_arms}
use Rattle.rounds.proofs.uses.clear_arms.Given as goal

abbrev pub invariant-loop-p : goal.invariant-loop-p
invariant-loop-p l = (l.p ≤ length l.tokens) × Marking l.tokens (not_in_arms l.tokens l.p) l.initial.marks l.marks
