use mathlib.Core.Path.{◌≡◌}
use Prim.Native.Nat.{◌*◌, ◌≤◌}
use lib.ListN.{take}
use Rattle.spec_tree.specs.Records.{root_records, terminated}
use Rattle.node_rows.proofs.records.roots_bytes.Given as goal

abbrev pub invariant-loop-n : goal.invariant-loop-n
invariant-loop-n l = (l.sum ≤ 27 * l.n-index) × (l.sum ≡ terminated (root_records (take l.n-index l.roots)))
