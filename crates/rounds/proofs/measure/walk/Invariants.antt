use Prim.Native.Nat.{ℕ, ◌+◌}
use mathlib.Core.Path.{◌≡◌}
use Rattle.rounds.proofs.measure.Together.{Gathering}
use Rattle.rounds.proofs.measure.walk.Given as goal

abbrev pub invariant-loop : goal.invariant-loop
invariant-loop l = (left : ℕ) × (l.counter + left ≡ l.count) × Gathering l.facts l.classes l.w l.place l.count l.size l.cost l.depth l.symbol l.key l.p left
