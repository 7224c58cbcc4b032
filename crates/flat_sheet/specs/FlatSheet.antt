-- What a sheet's flat answer is in rows: load, and then extract (01, "Turned down, by operation"). Assumes nothing.
use Rattle.std.specs.Prelude.{ℕ, ◌≡◌, false, List, length}
use Rattle.spec_tree.specs.Outcome.{Outcome, ok, refused}
use Rattle.spec_tree.specs.Rows.{Table}
use Rattle.spec_tree.specs.Layout.{table_words}
use Rattle.spec_sheet.specs.Call.{rows_after, roots_after}
use Rattle.spec_cse.specs.Call.{Extracted, extract_call, table_after}
use Rattle.flat_sheet.specs.Flat.{Flat}
use Rattle.flat_sheet.specs.Flat as flat

-- extract on a table's rows, by the lengths of the work area and how many answer rows are lent
unfoldable pub extracted_from : ℕ → ℕ → ℕ → Table → Outcome Extracted
unfolding extract_call table_words
extracted_from words_lent bytes_lent rows_lent t = extract_call false words_lent bytes_lent (table_words t.rows) t.roots rows_lent

-- how many words the node rows are and how many the answer's rows, or the number and the record; extract has no records
abbrev pub from_extract : ℕ → Outcome Extracted → Flat
from_extract node (ok x) = flat.Rows node (length x.words)
from_extract node (refused r) = flat.Refused r.number 0

abbrev pub flat_answer : Outcome Table → (Table → Outcome Extracted) → Flat
flat_answer (ok t) f = from_extract (length (table_words t.rows)) (f t)
flat_answer (refused r) f = flat.Refused r.number r.place

-- the table lent for the answer's rows, afterwards
abbrev pub flat_table : Outcome Table → (Table → Outcome Extracted) → List ℕ → List ℕ
flat_table (ok t) f old = table_after (f t) old
flat_table (refused r) f old = old

pub record Flattened (o : Outcome Table) (f : Table → Outcome Extracted) (old_rows old_roots old_table : List ℕ) (answer : Flat) (new_rows new_roots new_table : List ℕ) : Type 0 where
  pub answer_is : answer ≡ flat_answer o f
  pub rows_are : new_rows ≡ rows_after o old_rows
  pub roots_are : new_roots ≡ roots_after o old_roots
  pub table_is : new_table ≡ flat_table o f old_table
