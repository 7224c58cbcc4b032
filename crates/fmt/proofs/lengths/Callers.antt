-- What those who write texts of trees of at most 1,927 nodes need to know: each text has at most 65,536 bytes, so that it ends inside a slice with so much room;
-- and equal trees have equal texts. Assumes nothing.
use Prim.Native.Nat.{ℕ, suc, ◌+◌, ◌^◌, ◌≤◌, ◌<◌}
use native.Mathlib.Omega.{arith}
use mathlib.Core.Path.{◌≡◌, ap}
use mathlib.Core.Bool.{Bool}
use mathlib.Core.List.{List, [], ◌∷◌}
use lib.Dec.{T, ltb, lt→ltb}
use lib.ListN.{length, get_or}
use Rattle.spec_tree.specs.Bytes.{every}
use Rattle.spec_tree.specs.Tree.{Tree, eq_tree}
use Rattle.spec_tree.specs.Facts.{size}
use Rattle.spec_tree.proofs.Logic.{and_both}
use Rattle.spec_tree.proofs.TreeLaws.{eq_tree_sound}
use Rattle.spec_tree.specs.text.Text.{display}
use Rattle.fmt.proofs.emit.Fitting.{fits}
use Rattle.fmt.specs.shapes.Places.{tree_here, Stands, Passes}
use Rattle.fmt.proofs.shapes.NodeLaws.{names}
use Rattle.fmt.specs.lengths.Room.{numbers_fit}
use Rattle.fmt.proofs.lengths.Whole.{text_half, read_fits}

pub equal_texts : (t u : Tree) → T (eq_tree t u) → display t ≡ display u
equal_texts t u e = ap display (eq_tree_sound t u e)

-- words of 64 bits, as a slice has them
pub small_words : (ws : List ℕ) → ((i : ℕ) → get_or ws i 0 < 2 ^ 64) → T (every (λ w. ltb w (2 ^ 64)) ws)
unfolding every
small_words [] f = tt
small_words (w ∷ ws) f = and_both (ltb w (2 ^ 64)) (every (λ w. ltb w (2 ^ 64)) ws) (lt→ltb w (2 ^ 64) (f 0)) (small_words ws (λ i. f (suc i)))

module _ {rows ws : List ℕ} {at : ℕ} (S : Stands rows ws at) (words : (i : ℕ) → get_or ws i 0 < 2 ^ 64) (few : size (tree_here rows ws at) ≤ 1927) where
  fit : T (numbers_fit (tree_here rows ws at))
  unfolding tree_here
  fit = read_fits (names rows) ws at (small_words ws words)

  pub short : length (display (tree_here rows ws at)) ≤ 65536
  short = text_half (tree_here rows ws at) S.good fit few

  pub inside :
      {dry : Bool} {old : List ℕ} {to : ℕ} {new : List ℕ} {next end : ℕ} → Passes dry old at to (tree_here rows ws at) (display (tree_here rows ws at)) new next end → to + 65536 ≤ length old
      → (end ≡ to + length (display (tree_here rows ws at))) × (end ≤ length old)
  inside P h =
      let e = fits P.written (omega (arith, short)) in
      (e, omega (arith, e, short))
