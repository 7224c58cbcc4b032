-- An answer's rows one entry after another (01, "Turned down", refusal 12): a let's row and its tree's words for each binding in the order in which they are taken,
-- then a result's row and its tree's words for each result. Assumes nothing.
use Rattle.std.specs.Prelude.{ℕ, zero, suc, ◌+◌, ◌-◌, ◌*◌, cond, List, [], ◌∷◌, ◌++◌, length, get_or, ltb}
use Rattle.spec_tree.specs.Tree.{Op, nil}
use Rattle.spec_tree.specs.Tokens.{word, tokens}
use Rattle.spec_cse.specs.AnswerRows.{let_row, result_row}
use Rattle.words.specs.words.Words.{number}
use Rattle.reciprocals.specs.final.Final.{final_trees}

-- the words of the final tree of number i
unfoldable pub final_run : ℕ → List ℕ → List ℕ → ℕ → List ℕ
unfolding tokens final_trees
final_run k places ws i = tokens number (get_or (final_trees k places ws) i (Op 0 nil))

-- the row that entry q begins with, and the number of its tree
unfoldable pub entry_row : List ℕ → ℕ → ℕ
entry_row taken q = cond (ltb q (length taken)) (word let_row (1 + 3 * get_or taken q 0)) (word result_row 0)

unfoldable pub entry_tree : List ℕ → ℕ → ℕ → ℕ
entry_tree taken k q = cond (ltb q (length taken)) (k + get_or taken q 0) (q - length taken)

unfoldable pub entry : ℕ → List ℕ → List ℕ → List ℕ → ℕ → List ℕ
unfolding entry_row entry_tree final_run
entry k places ws taken q = entry_row taken q ∷ final_run k places ws (entry_tree taken k q)

-- the first n of some runs, one after another
unfoldable pub runs : (ℕ → List ℕ) → ℕ → List ℕ
runs f zero = []
runs f (suc n) = runs f n ++ f n

unfoldable pub entries : ℕ → List ℕ → List ℕ → List ℕ → ℕ → List ℕ
unfolding runs entry
entries k places ws taken n = runs (entry k places ws taken) n
