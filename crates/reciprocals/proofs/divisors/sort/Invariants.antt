use mathlib.Core.Path.{◌≡◌}
use lib.ListN.{length}
use Rattle.reciprocals.proofs.divisors.Sorting.{Sorting}
use Rattle.reciprocals.proofs.divisors.sort.Given as goal

abbrev pub invariant-loop-i : goal.invariant-loop-i
invariant-loop-i l = Sorting l.rows l.tokens l.initial.places l.places l.i × (length l.text ≡ length l.initial.text)
