-- Node rows unfolded into the words of their roots' trees (01, "Extraction", reading order; "Turned down", refusal 9). Assumes nothing.
use Rattle.std.specs.Prelude.{Result, Ok, Err, ℕ, ◌*◌, ◌/◌, ◌≤◌, ◌≡◌, List, [], ◌++◌, length, get_or, take, drop, T}
use Rattle.spec_tree.specs.Outcome.{Outcome, ok, refused, ◌>>=◌}
use Rattle.spec_tree.specs.Tree.{Tree, Op, nil}
use Rattle.spec_tree.specs.Rows.{Row, row_sym, row_const, row_op, at, trees_from, trees}
use Rattle.spec_tree.specs.Layout.{row_width, rows_of, rows_ok, table_words, table_or_9}
use Rattle.spec_tree.specs.Tokens.{tokens, all_tokens, number_in}
use Rattle.refusal.specs.declared.Refusal.{Refusal}
use Rattle.refusal.specs.Numbers.{number_of}

-- ---- the words' rows and trees, whatever the words are

unfoldable pub row_count : List ℕ → ℕ
row_count ws = length ws / row_width

unfoldable pub rows_in : List ℕ → List Row
unfolding rows_of row_count
rows_in ws = rows_of (row_count ws) ws

unfoldable pub row_at : List ℕ → ℕ → Row
unfolding rows_in
row_at ws i = get_or (rows_in ws) i (row_op 0 [])

unfoldable pub trees_of_rows : List ℕ → List Tree
unfolding trees_from rows_in
trees_of_rows ws = trees_from [] (rows_in ws)

-- a row's words
unfoldable pub words_at : List ℕ → ℕ → List ℕ
words_at ws i = take row_width (drop (i * row_width) ws)

-- a row's kind; its first two words add up to this number
unfoldable pub row_number : Row → ℕ
row_number (row_sym s) = 0
row_number (row_const c) = 1
row_number (row_op k ns) = k

-- the row numbers of a node's operands
unfoldable pub operand_rows : Row → List ℕ
operand_rows (row_sym s) = []
operand_rows (row_const c) = []
operand_rows (row_op k ns) = ns

-- a row's tree as words, and the trees of several rows one after another
unfoldable pub run : List ℕ → ℕ → List ℕ
unfolding trees_of_rows rows_in
run ws i = tokens (number_in (rows_in ws)) (get_or (trees_of_rows ws) i (Op 0 nil))

unfoldable pub runs : List ℕ → List ℕ → List ℕ
unfolding trees_of_rows rows_in
runs ws ns = all_tokens (number_in (rows_in ws)) (at (trees_of_rows ws) ns)

-- ---- what the inner functions ask of the words: a table's, whatever its roots

pub record RowsLaid (ws : List ℕ) : Type 0 where
  pub whole : table_words (rows_in ws) ≡ ws
  pub good : T (rows_ok 0 (rows_in ws))
  pub few : row_count ws ≤ 1024

-- ---- the whole

-- the words of the roots' trees, or 9 where the rows are none that load could lay out
unfoldable pub unfolded : List ℕ → List ℕ → Outcome (List ℕ)
unfolding table_or_9 all_tokens number_in trees
unfolded ws roots = table_or_9 ws roots >>= λ t. ok (all_tokens (number_in t.rows) (trees t))

-- what `unfold` answers: how many words the trees are, or the number of a refusal
pub data Unfolded : Type 0 where
  Tokens : ℕ → Unfolded
  Refused : ℕ → Unfolded

-- the same, as the code gives it
abbrev pub told : Result ℕ Refusal → Unfolded
told (Ok n) = Tokens n
told (Err e) = Refused (number_of e)

-- the answer has the length or the number; the words come first and what stood past them stays; refused, nothing is changed
abbrev pub Answers : Outcome (List ℕ) → List ℕ → Unfolded → List ℕ → Type 0
Answers (ok ts) old a new = (a ≡ Tokens (length ts)) × (new ≡ ts ++ drop (length ts) old)
Answers (refused r) old a new = (a ≡ Refused r.number) × (new ≡ old)
