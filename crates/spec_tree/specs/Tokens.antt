-- Trees as words (01, "Extraction", reading order): one word for each occurrence, a node before its operands, left to right, so that a tree is a run of words, a
-- place in it is a node, and equal trees are equal runs. Assumes nothing.
use Rattle.std.specs.Prelude.{ℕ, zero, suc, ◌+◌, ◌-◌, ◌*◌, ◌/◌, ◌%◌, Bool, true, false, ℤ, pos, negsuc, length, get_or, take, eqb, leb}
use Rattle.std.proofs.Math.Bool.{cond}
use Rattle.std.proofs.Math.Option.{Option, none, some}
use mathlib.Core.List.{List, [], ◌∷◌, ◌++◌}
use Rattle.std.proofs.Math.ListN.{drop}
use Rattle.spec_tree.specs.Bytes.{eq_bytes}
use Rattle.spec_tree.specs.Tree.{Name, input, xname, mname, Tree, Forest, Sym, Const, Op, nil, ◌◂◌, operands, forest, eq_tree}
use Rattle.spec_tree.specs.Facts.{cost, depth, has_symbol, operations, size}
use Rattle.spec_tree.specs.Rows.{Row, row_sym, row_const, row_op}

-- ---- from trees to words

-- a kind, and what is below it: a symbol's or a constant's code, or an operation's number of operands
abbrev pub word : ℕ → ℕ → ℕ
word kind below = kind + 64 * below

-- 0, -1, 1, -2, 2, ..
unfoldable pub constant_code : ℤ → ℕ
constant_code (pos n) = 2 * n
constant_code (negsuc n) = 1 + 2 * n

-- `number` gives the number of a symbol of the list
module _ (number : List ℕ → ℕ) where
  unfoldable pub name_code : Name → ℕ
  name_code (input s) = 3 * number s
  name_code (xname n) = 1 + 3 * n
  name_code (mname n) = 2 + 3 * n

  unfoldable mutual
    unfolding name_code constant_code operands

    pub tokens : Tree → List ℕ
    tokens (Sym n) = word 0 (name_code n) ∷ []
    tokens (Const c) = word 1 (constant_code c) ∷ []
    tokens (Op k f) = word k (length (operands f)) ∷ tokens_of f

    pub tokens_of : Forest → List ℕ
    tokens_of nil = []
    tokens_of (t ◂ f) = tokens t ++ tokens_of f

  unfoldable pub all_tokens : List Tree → List ℕ
  unfolding tokens
  all_tokens [] = []
  all_tokens (t ∷ l) = tokens t ++ all_tokens l

-- a symbol's number is that of the first row with its name
unfoldable pub first_named : ℕ → List Row → List ℕ → ℕ
unfolding eq_bytes
first_named i [] s = i
first_named i (row_sym n ∷ l) s = elim (eq_bytes n s) [ true ↦ i | false ↦ first_named (suc i) l s ]
first_named i (row_const c ∷ l) s = first_named (suc i) l s
first_named i (row_op k ns ∷ l) s = first_named (suc i) l s

unfoldable pub number_in : List Row → List ℕ → ℕ
unfolding first_named
number_in rows s = first_named 0 rows s

unfoldable pub name_of_row : Row → List ℕ
name_of_row (row_sym s) = s
name_of_row (row_const c) = []
name_of_row (row_op k ns) = []

-- the name of a symbol of the list by its row's number
unfoldable pub name_in : List Row → ℕ → List ℕ
unfolding name_of_row
name_in rows n = name_of_row (get_or rows n (row_const (pos 0)))

-- ---- from words to trees, whatever the words are

abbrev pub kind_of : ℕ → ℕ
kind_of w = w % 64

abbrev pub below_of : ℕ → ℕ
below_of w = w / 64

-- how many of the trees after a word are its operands
unfoldable pub takes : ℕ → ℕ
takes w = cond (leb (kind_of w) 1) 0 (below_of w)

unfoldable pub constant_at : ℕ → ℤ
constant_at c = cond (eqb (c % 2) 0) (pos (c / 2)) (negsuc (c / 2))

-- `name-at` gives the name of a symbol of the list by its number
module _ (name_at : ℕ → List ℕ) where
  unfoldable pub name_by : ℕ → ℕ → Name
  name_by zero n = input (name_at n)
  name_by (suc zero) n = xname n
  name_by (suc (suc class)) n = mname n

  unfoldable pub tree_of_word : ℕ → List Tree → Tree
  unfolding name_by constant_at forest
  tree_of_word w below =
      cond (eqb (kind_of w) 0) (Sym (name_by (below_of w % 3) (below_of w / 3)))
      (cond (eqb (kind_of w) 1) (Const (constant_at (below_of w))) (Op (kind_of w) (forest below)))

  -- the trees that the words are, one after another; a word that lacks operands has those that are there
  unfoldable pub read : List ℕ → List Tree
  unfolding takes tree_of_word
  read [] = []
  read (w ∷ ws) = tree_of_word w (take (takes w) (read ws)) ∷ drop (takes w) (read ws)

  -- the tree at each place
  unfoldable pub trees_at : List ℕ → List Tree
  unfolding read takes tree_of_word
  trees_at [] = []
  trees_at (w ∷ ws) = tree_of_word w (take (takes w) (read ws)) ∷ trees_at ws

-- each symbol of the list named by its number alone: so read, different words are different trees
abbrev pub numbered : ℕ → List ℕ
numbered n = n ∷ []

-- how many trees the words are, or none where a word lacks an operand
unfoldable pub trees_in : List ℕ → Option ℕ
unfolding takes
trees_in [] = some 0
trees_in (w ∷ ws) = elim (trees_in ws) [ none ↦ none | some n ↦ cond (leb (takes w) n) (some (suc (n - takes w))) none ]

-- how many words the first n trees are, or none where they end too soon
unfoldable pub words_of : List ℕ → ℕ → Option ℕ
unfolding takes
words_of [] zero = some 0
words_of [] (suc n) = none
words_of (w ∷ ws) zero = some 0
words_of (w ∷ ws) (suc n) = elim (words_of ws (n + takes w)) [ none ↦ none | some m ↦ some (suc m) ]

-- how many words the tree at a place is
unfoldable pub run_at : List ℕ → ℕ → Option ℕ
unfolding words_of
run_at ws i = words_of (drop i ws) 1

-- whether the trees at two places are equal, where both are there
unfoldable pub same_at : List ℕ → ℕ → ℕ → Option Bool
unfolding run_at trees_at eq_tree
same_at ws i j =
    elim (run_at ws i) [
      | none ↦ none
      | some n ↦ elim (run_at ws j) [
        | none ↦ none
        | some m ↦ some (eq_tree (get_or (trees_at numbered ws) i (Op 0 nil)) (get_or (trees_at numbered ws) j (Op 0 nil)))
      ]
    ]

-- ---- the facts of a tree, five words

unfoldable pub flag : Bool → ℕ
flag true = 1
flag false = 0

unfoldable pub facts : Tree → List ℕ
unfolding flag size cost depth operations has_symbol
facts t = size t ∷ cost t ∷ depth t ∷ operations t ∷ flag (has_symbol t) ∷ []

unfoldable pub all_facts : List Tree → List ℕ
unfolding facts
all_facts [] = []
all_facts (t ∷ l) = facts t ++ all_facts l

-- the facts of the tree at each place, or none where a word lacks an operand
unfoldable pub facts_of_words : List ℕ → Option (List ℕ)
unfolding trees_in all_facts trees_at
facts_of_words ws = elim (trees_in ws) [ none ↦ none | some n ↦ some (all_facts (trees_at numbered ws)) ]
