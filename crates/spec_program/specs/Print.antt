-- The call of print, with its refusals in order (01, "Turned down": Print; "Sheet and printing"): what it returns, and what it leaves in the lent buffer.
-- Assumes nothing.
use Rattle.std.specs.Prelude.{ℕ, ◌/◌, cond, List, ◌++◌, length, drop, ltb}
use Rattle.spec_tree.specs.Outcome.{Outcome, ok, refused, by}
use Rattle.spec_tree.specs.Layout.{row_width, rows_of}
use Rattle.spec_tree.specs.Tokens.{name_in}
use Rattle.spec_cse.specs.Answer.{answer_text}
use Rattle.spec_cse.specs.AnswerRows.{answer_of, answer_laid_out}

-- given the node rows, which hold the names, the answer rows, and how many bytes are lent
unfoldable pub print_call : List ℕ → List ℕ → ℕ → Outcome (List ℕ)
unfolding rows_of answer_laid_out answer_of name_in answer_text
print_call node_rows answer_rows bytes_lent =
    let rows = rows_of (length node_rows / row_width) node_rows in
    let text = answer_text (answer_of (name_in rows) 0 answer_rows) in
    cond (answer_laid_out rows answer_rows) (cond (ltb bytes_lent (length text)) (refused (by 14)) (ok text)) (refused (by 13))

-- a lent buffer after the call: the text and what was past it, or, refused, what was there
unfoldable pub buffer_after : Outcome (List ℕ) → List ℕ → List ℕ
buffer_after (ok text) old = text ++ drop (length text) old
buffer_after (refused r) old = old
