use mathlib.Core.Path.{◌≡◌}
use lib.ListN.{length}
use Rattle.rounds.proofs.value_numbers.Passes.{Pass}
use Rattle.rounds.proofs.value_numbers.pass.Given as goal

abbrev pub invariant-loop-i : goal.invariant-loop-i
invariant-loop-i l = Pass l.tokens l.initial.facts l.i l.facts l.classes l.next l.heads l.uses l.entered × (length l.classes ≡ length l.initial.classes) × (length l.next ≡ length l.initial.next) × (length l.heads ≡ length l.initial.heads) × (length l.uses ≡ length l.initial.uses)
