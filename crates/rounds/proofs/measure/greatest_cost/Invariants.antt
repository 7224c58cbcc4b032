use Prim.Native.Nat.{ℕ, ◌+◌}
use mathlib.Core.Path.{◌≡◌}
use Rattle.rounds.proofs.measure.Walking.{Seeking}
use Rattle.rounds.proofs.measure.greatest_cost.Given as goal

abbrev pub invariant-loop : goal.invariant-loop
invariant-loop l = (left : ℕ) × (l.counter + left ≡ l.count) × Seeking l.facts 1 l.place l.count l.most l.p left
