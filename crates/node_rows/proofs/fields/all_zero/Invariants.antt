use Rattle.node_rows.proofs.fields.Zeros.{Zeros}
use Rattle.node_rows.proofs.fields.all_zero.Given as goal

abbrev pub invariant-loop-w : goal.invariant-loop-w
invariant-loop-w l = Zeros l.words l.any l.w-index
