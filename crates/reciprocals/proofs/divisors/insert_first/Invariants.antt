use mathlib.Core.Path.{◌≡◌}
use lib.ListN.{length}
use Rattle.reciprocals.proofs.divisors.Sorting.{Inserting}
use Rattle.reciprocals.proofs.divisors.insert_first.Given as goal

abbrev pub invariant-loop-j : goal.invariant-loop-j
invariant-loop-j l = Inserting l.rows l.tokens l.initial.places l.places l.j × (length l.text ≡ length l.initial.text)
