-- What a sheet's scoped answer is as text, by the lengths of all that is lent: load, extract and print, and the first refusal reached (01, "Turned down, by
-- operation"); and what the three leave in all that is lent, refused or not. Assumes nothing.
use Rattle.std.specs.Prelude.{ℕ, ◌≡◌, true, List, length}
use Rattle.spec_tree.specs.Outcome.{Outcome, ok, refused, ◌>>=◌}
use Rattle.spec_tree.specs.Layout.{table_words}
use Rattle.spec_sheet.specs.Call.{load_call, rows_after, roots_after}
use Rattle.spec_cse.specs.Call.{Extracted, extract_call, table_after}
use Rattle.spec_program.specs.Print.{print_call, buffer_after}
use Rattle.csescoped.specs.sheet.Said.{Said}
use Rattle.csescoped.specs.sheet.Said as said

-- extract on node rows and roots, and print: by the lengths of the work area, how many answer rows and how many bytes are lent
unfoldable pub rows_text : ℕ → ℕ → ℕ → ℕ → List ℕ → List ℕ → Outcome (List ℕ)
unfolding extract_call print_call
rows_text work text rows_lent bytes_lent node_rows roots = extract_call true work text node_rows roots rows_lent >>= λ x. print_call node_rows x.words bytes_lent

-- by the lengths of the row table and the root list too
unfoldable pub sheet_text : ℕ → ℕ → ℕ → ℕ → ℕ → ℕ → List ℕ → Outcome (List ℕ)
unfolding load_call table_words rows_text
sheet_text words places work text rows_lent bytes_lent sheet =
    load_call words places sheet >>= λ t. rows_text work text rows_lent bytes_lent (table_words t.rows) t.roots

-- load and extract alone: the table has the answer's rows also where print refuses them
unfoldable pub sheet_rows : ℕ → ℕ → ℕ → ℕ → ℕ → List ℕ → Outcome Extracted
unfolding load_call table_words extract_call
sheet_rows words places work text rows_lent sheet =
    load_call words places sheet >>= λ t. extract_call true work text (table_words t.rows) t.roots rows_lent

-- how many bytes the text is, or the number and the record
abbrev pub said_of : Outcome (List ℕ) → Said
said_of (ok text) = said.Bytes (length text)
said_of (refused r) = said.Refused r.number r.place

-- the answer, and each byte of what was lent for the text
abbrev pub Says : Outcome (List ℕ) → List ℕ → Said → List ℕ → Type 0
Says o old answer new = (answer ≡ said_of o) × (new ≡ buffer_after o old)

-- the answer and all that is lent, by what it was: refused by load, all is as it was; refused by extract, the table and
-- the bytes are; refused by print, the bytes are. What is left in the work area is free, so only its lengths stand here.
pub record Scoped
    (sheet : List ℕ) (work text : ℕ) (old_rows old_roots old_table old_out : List ℕ) (answer : Said)
    (new_rows new_roots new_table new_out : List ℕ) : Type 0 where
  pub says : Says (sheet_text (length old_rows) (length old_roots) work text (length old_table) (length old_out) sheet) old_out answer new_out
  pub rows_are : new_rows ≡ rows_after (load_call (length old_rows) (length old_roots) sheet) old_rows
  pub roots_are : new_roots ≡ roots_after (load_call (length old_rows) (length old_roots) sheet) old_roots
  pub table_is : new_table ≡ table_after (sheet_rows (length old_rows) (length old_roots) work text (length old_table) sheet) old_table
