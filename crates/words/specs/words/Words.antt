-- Words of trees rewritten into words of trees (01, "Rewriting", "Reciprocals", "Scoped fusion"): the words are read as trees, each tree is rewritten, and
-- the trees are written as words. Assumes nothing.
use Rattle.std.specs.Prelude.{ℕ, ◌/◌, ◌%◌, ◌≡◌, Bool, true, false, ◌&&◌, List, ◌++◌, map, length, get_or, take, drop, eqb}
use Rattle.std.proofs.Math.Option.{Option, none, some}
use Rattle.spec_tree.specs.Bytes.{eq_bytes}
use Rattle.spec_tree.specs.Tree.{Name, Tree, Op, nil}
use Rattle.spec_tree.specs.Tokens.{kind_of, below_of, name_by, numbered, read, all_tokens, trees_in}

-- the number of a symbol that is named by its number
abbrev pub number : List ℕ → ℕ
number s = get_or s 0 0

-- the words of the trees that the trees of some words become
unfoldable pub rewritten_words : (Tree → Tree) → List ℕ → List ℕ
unfolding read all_tokens
rewritten_words f ws = all_tokens number (map f (read numbered ws))

-- the first tree that words are
unfoldable pub tree_of : List ℕ → Tree
unfolding read
tree_of ws = get_or (read numbered ws) 0 (Op 0 nil)

-- the name that a symbol's word holds
unfoldable pub name_of : ℕ → Name
unfolding name_by
name_of w = name_by numbered (below_of w % 3) (below_of w / 3)

-- whether words begin with others: where these are one tree, whether it is the first
unfoldable pub begins_with : List ℕ → List ℕ → Bool
unfolding eq_bytes
begins_with ws start = eq_bytes (take (length start) ws) start

-- no word lacks an operand
abbrev pub Complete : List ℕ → Type 0
Complete ws = (n : ℕ) × (trees_in ws ≡ some n)

-- the rewritten words stand in front, n of them, and everything after is as it was
pub record Writes (f : Tree → Tree) (ws old : List ℕ) (n : ℕ) (out : List ℕ) : Type 0 where
  pub count : n ≡ length (rewritten_words f ws)
  pub words : out ≡ rewritten_words f ws ++ drop (length (rewritten_words f ws)) old

-- ---- what may be rewritten: words none of which lacks an operand, by one tree to look for and a symbol's word

unfoldable pub some_trees : Option ℕ → Bool
some_trees none = false
some_trees (some n) = true

unfoldable pub one_tree : Option ℕ → Bool
one_tree none = false
one_tree (some n) = eqb n 1

unfoldable pub sound : List ℕ → List ℕ → ℕ → Bool
unfolding trees_in some_trees one_tree
sound ws part name = some_trees (trees_in ws) && (one_tree (trees_in part) && eqb (kind_of name) 0)
