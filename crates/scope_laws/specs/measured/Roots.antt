-- The scoped call of extract on words, after 8 (01, "Turned down": Extract): 9, the scope of the roots' trees, and 12 by how many rows it gives. Assumes nothing.
use Rattle.std.specs.Prelude.{ℕ, cond, List, ◌++◌, length, ltb}
use Rattle.spec_tree.specs.Outcome.{Outcome, ok, refused, by, ◌>>=◌}
use Rattle.spec_tree.specs.Rows.{trees}
use Rattle.spec_tree.specs.Layout.{table_of, laid_out}
use Rattle.spec_tree.specs.Tokens.{number_in, all_tokens}
use Rattle.words.specs.words.Words.{number}
use Rattle.fmt.specs.checked.Check.{rows_in}
use Rattle.spec_cse.specs.Answer.{block}
use Rattle.spec_cse.specs.AnswerRows.{result_row, intermediates_words, each_words}
use Rattle.spec_cse.specs.Scope.{Scoped, area_rows}
use Rattle.spec_cse.specs.Call.{Extracted}
use Rattle.fusion.specs.place.Whole.{Told, scope_told}

-- how many scopes may be open at once
abbrev pub scopes : ℕ
scopes = 9

-- what a scope gives, as the words of its rows: its statements, and its values in rows of a kind
unfoldable pub told : ℕ → Scoped → Told
unfolding intermediates_words block each_words
told row a =
    record {
      words = intermediates_words number (block a.inters) ++ each_words number row a.results;
      steps = length a.inters;
      next = a.next;
      extracted = a.extracted;
    }

-- the scope of the words of the roots' trees, or 9
unfoldable pub roots_told : List ℕ → List ℕ → Outcome Told
unfolding laid_out scope_told all_tokens number_in trees table_of
roots_told rows roots =
    let t = table_of rows roots in
    cond (laid_out rows roots) (scope_told (rows_in rows) scopes area_rows result_row 0 (all_tokens (number_in t.rows) (trees t))) (refused (by 9))

-- its rows as those of the answer, or 12 where fewer are lent
unfoldable pub told_or_12 : ℕ → Told → Outcome Extracted
told_or_12 lent a = cond (ltb lent (length a.words)) (refused (by 12)) (ok (record { words = a.words; extracted = a.extracted }))

unfoldable pub roots_rows : List ℕ → List ℕ → ℕ → Outcome Extracted
unfolding roots_told told_or_12
roots_rows rows roots lent = roots_told rows roots >>= λ a. told_or_12 lent a
