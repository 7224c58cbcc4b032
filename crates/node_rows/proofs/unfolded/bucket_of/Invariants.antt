use Prim.Native.Nat.{◌*◌, ◌≤◌}
use Rattle.node_rows.proofs.unfolded.ChainLaws.{Mixing}
use Rattle.node_rows.proofs.unfolded.bucket_of.Given as goal

abbrev pub invariant-loop-b : goal.invariant-loop-b
invariant-loop-b l = (l.sum ≤ 255 * l.b-index) × (l.sums ≤ 8160 * l.b-index) × Mixing l.name l.sum l.sums l.b-index
