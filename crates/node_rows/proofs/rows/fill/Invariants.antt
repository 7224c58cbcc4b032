use mathlib.Core.Path.{◌≡◌}
use lib.ListN.{length}
use Rattle.node_rows.proofs.rows.Filling.{Filling}
use Rattle.node_rows.proofs.rows.fill.Given as goal

abbrev pub invariant-loop-i : goal.invariant-loop-i
invariant-loop-i l = Filling l.rows l.n l.sizes l.levels l.i × ((length l.sizes ≡ length l.initial.sizes) × (length l.levels ≡ length l.initial.levels))
