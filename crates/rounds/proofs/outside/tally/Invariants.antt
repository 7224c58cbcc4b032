use mathlib.Core.Path.{◌≡◌}
use lib.ListN.{length}
use Rattle.rounds.proofs.outside.Tallying.{Tally}
use Rattle.rounds.proofs.outside.tally.Given as goal

abbrev pub invariant-loop-i : goal.invariant-loop-i
invariant-loop-i l = Tally l.tokens l.marks l.i l.outside × (length l.outside ≡ length l.initial.outside)
