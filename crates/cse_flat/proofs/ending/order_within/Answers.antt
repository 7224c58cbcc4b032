use Prim.Native.Nat.{ℕ, ◌≤◌}
use native.Mathlib.Omega.{arith}
use mathlib.Core.Path.{◌∙◌, ap}
use lib.ListN.{replicate}
use Rattle.reciprocals.proofs.final.Marking.{zeros_front, zeros_many}
use Rattle.cse_flat.proofs.ending.order_within.Goals as goal

pub order_with-requires-clause-heads_value : goal.order_with-requires-clause-heads_value
order_with-requires-clause-heads_value g c =
    let h : c.bindings-count.result ≤ g.row.N = omega (arith, c.bindings-count.ensures.0, c.requires.arrays_long.0) in
    zeros_front c.bindings-count.result g.row.N h ∙ ap (λ (n : ℕ). replicate {A = ℕ} n 0) (zeros_many c.bindings-count.result g.row.N h)
