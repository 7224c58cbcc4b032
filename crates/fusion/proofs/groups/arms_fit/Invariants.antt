use Rattle.fusion.proofs.groups.Arms.{MeasuredSo}
use Rattle.fusion.proofs.groups.arms_fit.Given as goal

abbrev pub invariant-loop-place : goal.invariant-loop-place
invariant-loop-place l = MeasuredSo l.tokens l.group l.arm l.room l.left l.place-index
