use Prim.Native.Nat.{ℕ, ◌+◌}
use mathlib.Core.Path.{◌≡◌}
use Rattle.rounds.proofs.value_numbers.Loops.{Comparing}
use Rattle.rounds.proofs.value_numbers.same_below.Given as goal

abbrev pub invariant-loop : goal.invariant-loop
invariant-loop l = (left : ℕ) × (l.counter + left ≡ l.count) × Comparing l.facts l.classes l.a l.b l.count l.p l.q left
