-- A list that passes 9, as far as trees go: operand counts, names, constants and limits of 01. Assumes nothing.
use Rattle.std.specs.Prelude.{ℕ, suc, ◌^◌, Bool, true, false, ◌&&◌, List, [], ◌∷◌, ℤ, pos, negsuc, length, leb, ltb}
use Rattle.spec_tree.specs.Tree.{Name, input, xname, mname, Tree, fold}
use Rattle.spec_tree.specs.Kinds.{arity_ok, Neg}
use Rattle.spec_tree.specs.Symbol.{is_name}
use Rattle.spec_tree.specs.Rows.{within_limits}

unfoldable pub all_of : List Bool → Bool
all_of [] = true
all_of (b ∷ l) = b && all_of l

-- a symbol of a list, spelled like no name of an answer
unfoldable pub of_list : Name → Bool
unfolding is_name
of_list (input s) = is_name s
of_list (xname i) = false
of_list (mname i) = false

-- below 10^15 in magnitude
unfoldable pub of_paper : ℤ → Bool
of_paper (pos n) = ltb n (10 ^ 15)
of_paper (negsuc n) = ltb (suc n) (10 ^ 15)

-- an operation's kind is none of the leaves' two, and it has as many operands as its kind may have
unfoldable pub operands_ok : ℕ → ℕ → Bool
unfolding arity_ok
operands_ok k n = leb Neg k && arity_ok k n

-- an expression of 01
unfoldable pub expression : Tree → Bool
unfolding fold of_list of_paper operands_ok all_of
expression = fold of_list of_paper (λ k tests. operands_ok k (length tests) && all_of tests)

unfoldable pub expressions : List Tree → Bool
unfolding expression
expressions [] = true
expressions (t ∷ l) = expression t && expressions l

-- at most 64 roots, within the limits, each an expression of 01
unfoldable pub passes : List Tree → Bool
unfolding expressions within_limits
passes es = leb (length es) 64 && (within_limits es && expressions es)

-- ---- the same for an answer's expressions (01, "Turned down", refusal 13)

-- a symbol is one of the list, or a name of an answer
unfoldable pub symbol_ok : Name → Bool
unfolding is_name
symbol_ok (input s) = is_name s
symbol_ok (xname n) = true
symbol_ok (mname n) = true

unfoldable pub tree_ok : Tree → Bool
unfolding fold symbol_ok of_paper operands_ok all_of
tree_ok = fold symbol_ok of_paper (λ k tests. operands_ok k (length tests) && all_of tests)

unfoldable pub trees_ok : List Tree → Bool
unfolding tree_ok
trees_ok [] = true
trees_ok (t ∷ l) = tree_ok t && trees_ok l
