-- Words that rounds of extraction take (01, "Extraction"): none lacks an operand, each is one of a tree that print takes, and every `__xN` in them has a number below
-- the next. Assumes nothing.
use Rattle.std.specs.Prelude.{ℕ, ◌+◌, ◌*◌, ◌/◌, ◌%◌, Bool, true, ◌&&◌, cond, List, eqb, ltb}
use Rattle.spec_tree.specs.Bytes.{every}
use Rattle.spec_tree.specs.Rows.{Row}
use Rattle.spec_tree.specs.Tokens.{kind_of, below_of, trees_in}
use Rattle.words.specs.words.Words.{some_trees}
use Rattle.fmt.specs.checked.Check.{word_ok}

-- the word of the symbol `__xN`
abbrev pub name_word : ℕ → ℕ
name_word n = 64 * (1 + 3 * n)

-- if a word is such a symbol's, its number is below n
unfoldable pub numbered_below : ℕ → ℕ → Bool
numbered_below n w = cond (eqb (kind_of w) 0) (cond (eqb (below_of w % 3) 1) (ltb (below_of w / 3) n) true) true

unfoldable pub extractable : List Row → ℕ → List ℕ → Bool
unfolding every word_ok numbered_below trees_in some_trees
extractable rows n ws = some_trees (trees_in ws) && (every (word_ok rows) ws && every (numbered_below n) ws)
