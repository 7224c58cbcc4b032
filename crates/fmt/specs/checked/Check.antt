-- The tree at a place of some words, its symbols named by node rows, and whether it is one that print takes (01, "Turned down", 13). The words of such a
-- tree are tested one by one; RunLaws shows that together the tests are `tree-ok`. Assumes nothing.
use Rattle.std.specs.Prelude.{ℕ, ◌+◌, ◌/◌, ◌%◌, Bool, true, false, cond, List, length, get_or, eqb, Option, Some, None}
use Rattle.std.proofs.Math.Option as maybe
use Rattle.std.proofs.Math.Option.{none, some}
use Rattle.spec_tree.specs.Tree.{Tree, Op, nil}
use Rattle.spec_tree.specs.Rows.{Row}
use Rattle.spec_tree.specs.Layout.{row_width, rows_of}
use Rattle.spec_tree.specs.Passes.{of_paper, symbol_ok, operands_ok}
use Rattle.spec_tree.specs.Tokens.{kind_of, below_of, constant_at, name_by, name_in, trees_at}

-- the node rows that some words are
abbrev pub rows_in : List ℕ → List Row
rows_in ws = rows_of (length ws / row_width) ws

-- the tree at a place
abbrev pub tree_in : List Row → List ℕ → ℕ → Tree
tree_in rows ws at = get_or (trees_at (name_in rows) ws) at (Op 0 nil)

-- the place after a tree that is there and passes, from the number of its words
unfoldable pub checked_answer : ℕ → maybe.Option ℕ → Bool → Option ℕ
checked_answer at none ok = None
checked_answer at (some n) true = Some (at + n)
checked_answer at (some n) false = None

-- ---- the test of a word, in the code's order

unfoldable pub word_ok : List Row → ℕ → Bool
unfolding symbol_ok name_by name_in constant_at of_paper operands_ok
word_ok rows w =
    cond (eqb (kind_of w) 0) (symbol_ok (name_by (name_in rows) (below_of w % 3) (below_of w / 3)))
    (cond (eqb (kind_of w) 1) (of_paper (constant_at (below_of w))) (operands_ok (kind_of w) (below_of w)))
