-- The text of the tree at a place of some words (01, "Text"), and what two of them take. Assumes nothing.
use Rattle.std.specs.Prelude.{ℕ, ◌+◌, List, length}
use Rattle.spec_tree.specs.text.Text.{display}
use Rattle.fmt.specs.shapes.Places.{tree_here}

unfoldable pub text_here : List ℕ → List ℕ → ℕ → List ℕ
unfolding display tree_here
text_here rows ws at = display (tree_here rows ws at)

-- the bytes of the texts at two places
unfoldable pub both_long : List ℕ → List ℕ → ℕ → ℕ → ℕ
unfolding text_here
both_long rows ws i j = length (text_here rows ws i) + length (text_here rows ws j)
