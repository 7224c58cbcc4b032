use mathlib.Core.Path.{◌≡◌}
use Prim.Native.Nat.{◌+◌, ◌*◌, ◌-◌, ◌≤◌}
use lib.ListN.{drop}
use Rattle.node_rows.specs.records.Shape.{field_count}
use Rattle.node_rows.proofs.records.field_count.Given as goal

abbrev pub invariant-loop-i : goal.invariant-loop-i
invariant-loop-i l = (l.sum ≤ 32 * l.i) × (l.sum + field_count (l.i-end - l.i) (drop (35 * l.i) l.rows) ≡ field_count l.i-end l.rows)
