use mathlib.Core.Path.{◌≡◌}
use Prim.Native.Nat.{◌-◌, ◌≤◌}
use lib.ListN.{length}
use Rattle.load.proofs.recordlist.Reading.{Reading}
use Rattle.load.proofs.recordlist.read_records.Given as goal

abbrev pub invariant-loop-at : goal.invariant-loop-at
invariant-loop-at l = Reading l.sheet l.at l.records l.so_far.rows l.so_far.roots l.table l.list × (l.at ≤ 65537) × (length l.table ≡ length l.initial.table) × (length l.list ≡ length l.initial.list)

abbrev pub decreases-loop-at : goal.decreases-loop-at
decreases-loop-at l = length l.sheet - l.at
