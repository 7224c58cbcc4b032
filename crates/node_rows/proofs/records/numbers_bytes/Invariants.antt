use mathlib.Core.Path.{◌≡◌}
use Prim.Native.Nat.{◌*◌, ◌≤◌}
use lib.ListN.{length, take}
use Rattle.spec_tree.specs.Records.{numbers_text}
use Rattle.node_rows.proofs.records.numbers_bytes.Given as goal

abbrev pub invariant-loop-n : goal.invariant-loop-n
invariant-loop-n l = (l.sum ≤ 21 * l.n-index) × (l.sum ≡ length (numbers_text (take l.n-index l.s)))
