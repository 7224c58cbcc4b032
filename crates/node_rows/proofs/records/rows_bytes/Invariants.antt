use mathlib.Core.Path.{◌≡◌}
use Prim.Native.Nat.{◌+◌, ◌*◌, ◌-◌, ◌≤◌}
use lib.ListN.{drop}
use Rattle.spec_tree.specs.Records.{row_records, terminated}
use Rattle.spec_tree.specs.Layout.{rows_of}
use Rattle.node_rows.proofs.records.rows_bytes.Given as goal

abbrev pub invariant-loop-i : goal.invariant-loop-i
invariant-loop-i l = (l.sum ≤ 702 * l.i) × (l.sum + terminated (row_records (rows_of (l.i-end - l.i) (drop (35 * l.i) l.rows))) ≡ terminated (row_records (rows_of l.i-end l.rows)))
