use lib.ListN.{take}
use Rattle.node_rows.specs.unfolded.Write.{Wrote}
use Rattle.node_rows.specs.unfolded.Unfold.{runs}
use Rattle.node_rows.proofs.unfolded.RunLaws.{bound}
use Prim.Native.Nat.{◌+◌, ◌*◌}
use Rattle.node_rows.proofs.unfolded.+unfold_each_unfold_row.Given as goal

abbrev pub decreases-unfold_row : goal.decreases-unfold_row
decreases-unfold_row l = 2 * l.r + 1

abbrev pub decreases-unfold_each : goal.decreases-unfold_each
decreases-unfold_each l = 2 * bound l.list.now

abbrev pub invariant-unfold_each-loop-r : goal.invariant-unfold_each-loop-r
invariant-unfold_each-loop-r l = Wrote l.initial.out l.at (runs l.rows (take l.r-index l.list)) l.to l.out
