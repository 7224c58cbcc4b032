-- What stands in the words lent after holding: where what is held is no longer than they are, it stands in front. Assumes nothing.
use Prim.Native.Nat.{ℕ, ◌≤◌}
use native.Mathlib.Omega.{arith}
use mathlib.Core.Path.{◌≡◌, refl, ◌∙◌, ap}
use mathlib.Core.List.{List}
use lib.ListN.{length, take, drop}
use lib.Seq.{take_at}
use Rattle.fusion.specs.place.Overlay.{overlay}
use Rattle.fusion.proofs.tables.Laws.{overlay_length, overlay_front}

-- as many words as are lent
pub held_length : (ws new old : List ℕ) → length (overlay 0 new (overlay 0 ws old)) ≡ length old
held_length ws new old = overlay_length 0 new (overlay 0 ws old) ∙ overlay_length 0 ws old

pub held_front : (ws new old : List ℕ) → length new ≤ length old → take (length new) (overlay 0 new (overlay 0 ws old)) ≡ new
held_front ws new old h =
    ap (take (length new)) (overlay_front new (overlay 0 ws old) (omega (arith, h, overlay_length 0 ws old)))
    ∙ take_at new (drop (length new) (overlay 0 ws old)) (length new) refl
