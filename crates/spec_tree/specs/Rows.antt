-- Node rows and roots, their trees, and the limits on occurrences and nesting (01, "Expressions and facts"). Assumes nothing.
use Rattle.std.specs.Prelude.{ℕ, ◌+◌, Bool, true, ◌&&◌, List, [], ◌∷◌, ◌++◌, ℤ, get_or, leb}
use Rattle.spec_tree.specs.Tree.{input, Tree, Sym, Const, Op, nil, forest}
use Rattle.spec_tree.specs.Facts.{size, nesting}

-- a node: a symbol, a constant, or an operation with its operands' node numbers
pub data Row : Type 0 where
  row_sym : List ℕ → Row
  row_const : ℤ → Row
  row_op : ℕ → List ℕ → Row

-- what has been loaded, rows and roots in order
abbrev pub Table : Type 0
Table = record { rows : List Row; roots : List ℕ }

-- ---- trees

-- the trees of some node numbers
unfoldable pub at : List Tree → List ℕ → List Tree
at ts [] = []
at ts (n ∷ ns) = get_or ts n (Op 0 nil) ∷ at ts ns

-- a node's tree, from those of the nodes before it
unfoldable pub tree_of_row : List Tree → Row → Tree
unfolding at forest
tree_of_row ts (row_sym s) = Sym (input s)
tree_of_row ts (row_const c) = Const c
tree_of_row ts (row_op k ns) = Op k (forest (at ts ns))

unfoldable pub trees_from : List Tree → List Row → List Tree
unfolding tree_of_row
trees_from ts [] = ts
trees_from ts (r ∷ l) = trees_from (ts ++ (tree_of_row ts r ∷ [])) l

-- the roots' trees
unfoldable pub trees : Table → List Tree
unfolding trees_from at
trees t = at (trees_from [] t.rows) t.roots

unfoldable pub occurrences : List Tree → ℕ
unfolding size
occurrences [] = 0
occurrences (t ∷ l) = size t + occurrences l

unfoldable pub within_limits : List Tree → Bool
unfolding occurrences nesting
within_limits ts = leb (occurrences ts) 1024 && shallow ts
  where
    shallow : List Tree → Bool
    shallow [] = true
    shallow (t ∷ l) = leb (nesting t) 8 && shallow l
