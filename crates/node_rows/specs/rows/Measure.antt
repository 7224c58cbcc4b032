-- How large and how deep the trees of rows are, counted no further than the limits of 01 need: a size stands as it is or as 1,025, whichever is less, and
-- a nesting as it is or as 9. Assumes nothing.
use Rattle.std.specs.Prelude.{ℕ, ◌<◌, min, ◌≡◌, Bool, true, cond, List, [], ◌∷◌, length, get_or, take, drop, leb}
use Rattle.spec_tree.specs.Kinds.{Neg, is_switch}
use Rattle.spec_tree.specs.Tree.{Tree, Op, nil}
use Rattle.spec_tree.specs.Facts.{greatest, first_or_deeper, size, nesting}
use Rattle.spec_tree.specs.Rows.{trees_from}
use Rattle.spec_tree.specs.Layout.{rows_of}
use Rattle.node_rows.specs.rows.Check.{rows_test}

-- what stands at each of some places
unfoldable pub pick : List ℕ → List ℕ → List ℕ
pick xs [] = []
pick xs (n ∷ ns) = get_or xs n 0 ∷ pick xs ns

abbrev pub capped_size : ℕ → ℕ
capped_size n = min n 1025

abbrev pub capped_level : ℕ → ℕ
capped_level n = min n 9

-- the nesting of a node from those of its operands
unfoldable pub level_by : ℕ → List ℕ → ℕ
unfolding first_or_deeper greatest
level_by k levels = cond (is_switch k) (first_or_deeper levels) (greatest levels)

-- the node numbers in a row's words: a leaf has none
unfoldable pub row_operands : List ℕ → List ℕ
row_operands w = cond (leb Neg (get_or w 0 0)) (take (get_or w 2 0) (drop 3 w)) []

-- what two arrays say of trees
pub record RowMeasures (ts : List Tree) (sizes levels : List ℕ) : Type 0 where
  pub size_is : (j : ℕ) → j < length ts → get_or sizes j 0 ≡ capped_size (size (get_or ts j (Op 0 nil)))
  pub level_is : (j : ℕ) → j < length ts → get_or levels j 0 ≡ capped_level (nesting (get_or ts j (Op 0 nil)))

-- what the pass over n rows leaves: the answer of their tests, and, where they pass, the measures of their trees
pub record Filled (ws : List ℕ) (n : ℕ) (sizes levels : List ℕ) (r : Bool) : Type 0 where
  pub tested : r ≡ rows_test 0 n ws
  pub measured : r ≡ true → RowMeasures (trees_from [] (rows_of n ws)) sizes levels
