-- The call of load: what it returns, and what it leaves in the lent row table and root list (01, "Turned down": Load). Assumes nothing.
use Rattle.std.specs.Prelude.{ℕ, ◌/◌, List, ◌++◌, length, drop}
use Rattle.spec_tree.specs.Outcome.{Outcome, ok, refused}
use Rattle.spec_tree.specs.Rows.{Table}
use Rattle.spec_tree.specs.Layout.{row_width, table_words}
use Rattle.spec_sheet.specs.Sheet.{load}

-- given how many words the row table and how many places the root list has
unfoldable pub load_call : ℕ → ℕ → List ℕ → Outcome Table
unfolding load
load_call words_lent places_lent sheet = load (words_lent / row_width) places_lent sheet

-- the row table after the call: the rows' words and what was past them, or, refused, what was there
unfoldable pub rows_after : Outcome Table → List ℕ → List ℕ
unfolding table_words
rows_after (ok t) old = table_words t.rows ++ drop (length (table_words t.rows)) old
rows_after (refused r) old = old

-- the root list after the call
unfoldable pub roots_after : Outcome Table → List ℕ → List ℕ
roots_after (ok t) old = t.roots ++ drop (length t.roots) old
roots_after (refused r) old = old
