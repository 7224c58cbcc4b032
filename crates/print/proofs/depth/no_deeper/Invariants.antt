use Rattle.std.proofs.Common.{◌<◌, length}
use Rattle.print.proofs.depth.Under.{Open}
use Rattle.print.proofs.depth.no_deeper.Given as goal

abbrev pub invariant-loop-w : goal.invariant-loop-w
invariant-loop-w l = Open l.rows l.left l.level l.below l.w-index

abbrev pub invariant-loop-below : goal.invariant-loop-below
invariant-loop-below l = (l.w-index < length l.rows) × Open l.rows l.left l.level l.below l.w-index

abbrev pub decreases-loop-below : goal.decreases-loop-below
decreases-loop-below l = l.level
