-- How long the text of a tree among words is at most: 34 bytes for each word of the tree, where it is one of an answer and its words have 64 bits. Assumes nothing.
use Prim.Native.Nat.{ℕ, ◌*◌, ◌≤◌, ◌<◌}
use mathlib.Core.List.{List}
use lib.ListN.{length, get_or}
use lib.Dec.{T}
use Rattle.spec_tree.specs.Facts.{size}
use Rattle.spec_tree.specs.Passes.{tree_ok}
use Rattle.spec_tree.specs.Tokens.{name_in}
use Rattle.fmt.specs.checked.Check.{rows_in}
use Rattle.fmt.specs.shapes.Places.{tree_here}
use Rattle.fmt.proofs.lengths.Whole.{text_fits, read_fits}
use Rattle.fmt.proofs.lengths.Callers.{small_words}
use Rattle.fmt.specs.order.Order.{text_here}

pub text_short :
    (rows ws : List ℕ) (i : ℕ) → ((k : ℕ) → get_or ws k 0 < 18446744073709551616) → T (tree_ok (tree_here rows ws i)) → length (text_here rows ws i) ≤ 34 * size (tree_here rows ws i)
unfolding text_here tree_here
text_short rows ws i h t = text_fits (tree_here rows ws i) t (read_fits (name_in (rows_in rows)) ws i (small_words ws h))
