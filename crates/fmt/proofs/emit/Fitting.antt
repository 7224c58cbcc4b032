-- A text that ended inside the slice: it stands there whole, and all else is as it was. For those who call a writer. Assumes nothing.
use Prim.Native.Nat.{ℕ, ◌+◌, ◌-◌, ◌≤◌, ◌<◌}
use mathlib.Core.Path.{◌≡◌, ap, ◌∙◌}
use mathlib.Core.Bool.{Bool, false}
use mathlib.Core.List.{List, ◌++◌, append_assoc}
use native.Mathlib.Omega.{arith}
use lib.ListN.{length, take, drop}
use lib.Seq.{sets-eq, length-take-le, take_at, drop_at}
use Rattle.fmt.specs.emit.Writing.{Writes}

module _ {dry : Bool} {old : List ℕ} {to : ℕ} {text new : List ℕ} {end : ℕ} (W : Writes dry old to text new end) where
  -- it did not fit exactly where it ends past the slice
  pub fits_end : end ≤ length old → end ≡ to + length text
  fits_end h = omega (arith, W.ends)

  pub fits : to + length text ≤ length old → end ≡ to + length text
  fits h = omega (arith, W.ends)

  pub too_long : length old < end → length old < to + length text
  too_long h = omega (arith, W.ends)

module _ {old : List ℕ} {to : ℕ} {text new : List ℕ} {end : ℕ} (W : Writes false old to text new end) (h : end ≤ length old) where
  room : to + length text ≤ length old
  room = omega (arith, fits_end W h)

  -- the text in its place, and all else as it was
  pub fits_new : new ≡ take to old ++ text ++ drop (to + length text) old
  fits_new = W.leaves ∙ sets-eq text old to room

  front : length (take to old) ≡ to
  front = length-take-le to old (omega (arith, room))

  rest : new ≡ take to old ++ (text ++ drop (to + length text) old)
  rest = fits_new ∙ append_assoc (take to old) text (drop (to + length text) old)

  -- what stood before it
  pub fits_before : take to new ≡ take to old
  fits_before = ap (take to) rest ∙ take_at (take to old) (text ++ drop (to + length text) old) to front

  -- the part of the slice that it is
  pub fits_part : take (end - to) (drop to new) ≡ text
  fits_part =
      let n : length text ≡ end - to = omega (arith, fits_end W h) in
      ap (λ (l : List ℕ). take (end - to) (drop to l)) rest
      ∙ (ap (take (end - to)) (drop_at (take to old) (text ++ drop (to + length text) old) to front) ∙ take_at text (drop (to + length text) old) (end - to) n)
