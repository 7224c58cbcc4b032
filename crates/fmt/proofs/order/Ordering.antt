-- Two texts written one after the other: their parts of the bytes are the two texts. Assumes nothing.
use Prim.Native.Nat.{ℕ, ◌+◌, ◌-◌, ◌≤◌}
use native.Mathlib.Omega.{arith}
use mathlib.Core.Path.{◌≡◌, sym, ◌∙◌, ap, ap₂}
use mathlib.Core.Bool.{Bool, false}
use mathlib.Core.List.{List, ◌++◌, append_assoc}
use lib.ListN.{length, take, drop, length-append}
use lib.Seq.{sets-eq, length-sets, take_at, drop_at}
use Rattle.spec_tree.specs.text.Text.{display, before}
use Rattle.fmt.specs.emit.Writing.{Writes}
use Rattle.fmt.specs.shapes.Places.{tree_here}
use Rattle.fmt.specs.order.Order.{text_here, both_long}

module _ {a b old mid new : List ℕ} {middle end : ℕ} (k : Writes false old 0 a mid middle) (l : Writes false mid middle b new end) (fit : length a + length b ≤ length old) where
  mid_long : length mid ≡ length old
  mid_long = ap length k.leaves ∙ length-sets old 0 a

  new_long : length new ≡ length old
  new_long = ap length l.leaves ∙ (length-sets mid middle b ∙ mid_long)

  first_ends : middle ≡ length a
  first_ends = omega (arith, k.ends, fit)

  second_long : end - middle ≡ length b
  second_long = omega (arith, k.ends, l.ends, mid_long, fit)

  pub parts : (middle ≤ end) × (end ≤ length new)
  parts = (omega (arith, k.ends, l.ends, mid_long, fit), omega (arith, k.ends, l.ends, mid_long, new_long, fit))

  both_there : (rest : List ℕ) × (new ≡ a ++ (b ++ rest))
  both_there =
      let e : mid ≡ a ++ drop (0 + length a) old = k.leaves ∙ sets-eq a old 0 (omega (arith, fit)) in
      let t : take middle mid ≡ a = ap (take middle) e ∙ take_at a (drop (0 + length a) old) middle (sym first_ends) in
      let f : new ≡ take middle mid ++ b ++ drop (middle + length b) mid = l.leaves ∙ sets-eq b mid middle (omega (arith, mid_long, first_ends, fit)) in
      (drop (middle + length b) mid, f ∙ (ap (λ (x : List ℕ). x ++ b ++ drop (middle + length b) mid) t ∙ append_assoc a b (drop (middle + length b) mid)))

  pub compared : (r : Bool) → r ≡ before (take middle (take end new)) (drop middle (take end new)) → r ≡ before a b
  compared r e =
      let s = both_there.0 in
      let n : length (a ++ b) ≡ end = omega (arith, length-append a b, first_ends, second_long, parts.0) in
      let both : take end new ≡ a ++ b = ap (take end) (both_there.1 ∙ sym (append_assoc a b s)) ∙ take_at (a ++ b) s end n in
      e ∙ ap₂ before (ap (take middle) both ∙ take_at a b middle (sym first_ends)) (ap (drop middle) both ∙ drop_at a b middle (sym first_ends))

-- the same of the texts at two places
module _ (rows ws : List ℕ) (i j : ℕ) where
  pub fits : (n : ℕ) → both_long rows ws i j ≤ n → length (display (tree_here rows ws i)) + length (display (tree_here rows ws j)) ≤ n
  unfolding both_long text_here
  fits n h = h

  pub of_texts : (r : Bool) → r ≡ before (display (tree_here rows ws i)) (display (tree_here rows ws j)) → r ≡ before (text_here rows ws i) (text_here rows ws j)
  unfolding text_here
  of_texts r e = e
