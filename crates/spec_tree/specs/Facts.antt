-- What extraction decides by: cost, depth, symbols, operations, and the nodes of a tree in reading order (01, "Expressions and facts", "Uses").
-- Assumes nothing.
use Rattle.std.specs.Prelude.{ℕ, suc, ◌+◌, ◌-◌, max, Bool, true, false, ◌||◌, cond, List, [], ◌∷◌, ◌++◌}
use Rattle.spec_tree.specs.Tree.{Tree, Forest, Sym, Const, Op, nil, ◌◂◌, fold, eq_tree}
use Rattle.spec_tree.specs.Kinds.{is_select, is_switch}

-- ---- lists of numbers and of tests

unfoldable pub total : List ℕ → ℕ
total [] = 0
total (n ∷ l) = n + total l

unfoldable pub greatest : List ℕ → ℕ
greatest [] = 0
greatest (n ∷ l) = max n (greatest l)

unfoldable pub some_of : List Bool → Bool
some_of [] = false
some_of (b ∷ l) = b || some_of l

-- the first, and the dearest of the others
unfoldable pub first_and_greatest : List ℕ → ℕ
unfolding greatest
first_and_greatest [] = 0
first_and_greatest (n ∷ l) = n + greatest l

-- ---- the facts (01, "Expressions and facts")

unfoldable pub cost : Tree → ℕ
unfolding fold total first_and_greatest
cost = fold (λ n. 0) (λ c. 0) (λ k costs. suc (cond (is_select k) (first_and_greatest costs) (total costs)))

unfoldable pub depth : Tree → ℕ
unfolding fold greatest
depth = fold (λ n. 0) (λ c. 0) (λ k depths. suc (greatest depths))

unfoldable pub has_symbol : Tree → Bool
unfolding fold some_of
has_symbol = fold (λ n. true) (λ c. false) (λ k tests. some_of tests)

-- operations, one for each occurrence, all arms included
unfoldable pub operations : Tree → ℕ
unfolding fold total
operations = fold (λ n. 0) (λ c. 0) (λ k counts. suc (total counts))

-- of several trees
unfoldable pub all_operations : List Tree → ℕ
unfolding operations
all_operations [] = 0
all_operations (t ∷ l) = operations t + all_operations l

-- nodes, one for each occurrence
unfoldable pub size : Tree → ℕ
unfolding fold total
size = fold (λ n. 1) (λ c. 1) (λ k sizes. suc (total sizes))

-- how deep arms nest: each operand of a switch after the first is one level further in
unfoldable pub first_or_deeper : List ℕ → ℕ
unfolding greatest
first_or_deeper [] = 0
first_or_deeper (n ∷ []) = n
first_or_deeper (n ∷ (d ∷ l)) = max n (suc (greatest (d ∷ l)))

unfoldable pub nesting : Tree → ℕ
unfolding fold greatest first_or_deeper
nesting = fold (λ n. 0) (λ c. 0) (λ k levels. cond (is_switch k) (first_or_deeper levels) (greatest levels))

-- ---- nodes in reading order: a node before its operands, left to right (01, "Extraction")

unfoldable mutual
  pub nodes : Tree → List Tree
  nodes (Sym n) = Sym n ∷ []
  nodes (Const c) = Const c ∷ []
  nodes (Op k f) = Op k f ∷ nodes_of f

  pub nodes_of : Forest → List Tree
  nodes_of nil = []
  nodes_of (t ◂ f) = nodes t ++ nodes_of f

-- the nodes outside arms: below a switch only those of its first operand
unfoldable mutual
  pub outer : Tree → List Tree
  outer (Sym n) = Sym n ∷ []
  outer (Const c) = Const c ∷ []
  outer (Op k f) = Op k f ∷ elim (is_switch k) [ true ↦ outer_first f | false ↦ outer_of f ]

  pub outer_of : Forest → List Tree
  outer_of nil = []
  outer_of (t ◂ f) = outer t ++ outer_of f

  pub outer_first : Forest → List Tree
  outer_first nil = []
  outer_first (t ◂ f) = outer t

-- of several trees in order
unfoldable pub all_nodes : List Tree → List Tree
unfolding nodes
all_nodes [] = []
all_nodes (t ∷ l) = nodes t ++ all_nodes l

unfoldable pub all_outer : List Tree → List Tree
unfolding outer
all_outer [] = []
all_outer (t ∷ l) = outer t ++ all_outer l

-- ---- uses (01, "Uses")

-- how many of the list are equal to e
unfoldable pub count : Tree → List Tree → ℕ
unfolding eq_tree
count e [] = 0
count e (t ∷ l) = elim (eq_tree t e) [ true ↦ suc (count e l) | false ↦ count e l ]

-- The nodes that `path_counts` counts outside arms. `scoped` is false for the flat form, where every use is outside.
unfoldable pub outside : Bool → List Tree → List Tree
unfolding all_nodes all_outer
outside false roots = all_nodes roots
outside true roots = all_outer roots

-- o
unfoldable pub uses_outside : Bool → List Tree → Tree → ℕ
unfolding count outside
uses_outside scoped roots e = count e (outside scoped roots)

-- o + i, which is the same in both forms
unfoldable pub uses : List Tree → Tree → ℕ
unfolding count all_nodes
uses roots e = count e (all_nodes roots)
