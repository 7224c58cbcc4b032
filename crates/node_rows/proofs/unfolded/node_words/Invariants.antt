use Prim.Native.Nat.{ℕ, ◌<◌}
use mathlib.Core.Path.{◌≡◌}
use lib.ListN.{length, get_or}
use Rattle.node_rows.specs.unfolded.Unfold.{run}
use Rattle.node_rows.specs.unfolded.Chain.{Chains}
use Rattle.node_rows.proofs.unfolded.node_words.Given as goal

abbrev pub invariant-loop-r : goal.invariant-loop-r
invariant-loop-r l = Chains l.rows l.r l.heads l.next × (length l.words ≡ length l.initial.words) × ((k : ℕ) → k < l.r → get_or l.words k 0 ≡ get_or (run l.rows k) 0 0) × (length l.next ≡ length l.initial.next)
