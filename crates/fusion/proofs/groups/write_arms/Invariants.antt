use Rattle.fusion.proofs.groups.Arms.{WrittenSo}
use Rattle.fusion.proofs.groups.write_arms.Given as goal

abbrev pub invariant-loop-place : goal.invariant-loop-place
invariant-loop-place l = WrittenSo l.tokens l.group l.arm l.initial.out l.out l.n l.place-index
