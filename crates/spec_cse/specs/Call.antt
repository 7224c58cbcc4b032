-- The call of extract, flat or scoped, with its refusals in order (01, "Turned down": Extract): what it returns, and what it leaves in the lent table.
-- The work area afterwards is free. Assumes nothing.
use Rattle.std.specs.Prelude.{ℕ, Bool, ◌||◌, cond, List, ◌++◌, length, drop, ltb}
use Rattle.spec_tree.specs.Outcome.{Outcome, ok, refused, by, ◌>>=◌}
use Rattle.spec_tree.specs.Rows.{trees}
use Rattle.spec_tree.specs.Layout.{table_or_9}
use Rattle.spec_tree.specs.Tokens.{number_in}
use Rattle.spec_cse.specs.Answer.{rows}
use Rattle.spec_cse.specs.AnswerRows.{answer_words}
use Rattle.spec_cse.specs.Scope.{area_rows, answer}

-- the work area's fixed length: words of 64 bits, each two of 01's of 32, and bytes of text
abbrev pub work_words : ℕ
work_words = area_rows

abbrev pub work_bytes : ℕ
work_bytes = 131072

-- an answer's rows, and how many bindings its rounds made
abbrev pub Extracted : Type 0
Extracted = record { words : List ℕ; extracted : ℕ }

-- given the lengths of the work area, the node rows, the roots, and how many answer rows are lent
unfoldable pub extract_call : Bool → ℕ → ℕ → List ℕ → List ℕ → ℕ → Outcome Extracted
unfolding table_or_9 trees answer rows answer_words number_in
extract_call scoped words_lent bytes_lent node_rows roots rows_lent =
    cond (ltb words_lent work_words || ltb bytes_lent work_bytes) (refused (by 8))
    (table_or_9 node_rows roots >>= λ t.
    answer scoped (trees t) >>= λ a.
    cond (ltb rows_lent (rows a)) (refused (by 12)) (ok (record { words = answer_words (number_in t.rows) a; extracted = a.extracted })))

-- a lent table after the call: the answer's rows and what was past them, or, refused, what was there
unfoldable pub table_after : Outcome Extracted → List ℕ → List ℕ
table_after (ok x) old = x.words ++ drop (length x.words) old
table_after (refused r) old = old
