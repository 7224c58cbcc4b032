-- What reading one record, and all of them, answers and leaves in the table and the list. Assumes nothing.
use Rattle.std.specs.Prelude.{ℕ, suc, ◌+◌, ◌*◌, ◌≤◌, ◌≡◌, List, [], ◌++◌, length, take, set}
use Rattle.spec_tree.specs.Outcome.{Outcome, ok, refused}
use Rattle.spec_tree.specs.Rows.{Table}
use Rattle.spec_tree.specs.Layout.{row_words, table_words}
use Rattle.spec_sheet.specs.Sheet.{records_from, load_records}
use Rattle.load.specs.one_record.Item.{Item, a_row, a_root}
use Rattle.load.specs.recordlist.Step.{Step}
use Rattle.load.specs.recordlist.Step as step
use Rattle.load.specs.recordlist.Records.{Records}
use Rattle.load.specs.recordlist.Records as records

-- a row joins the table, a root the list
pub record RowJoined (n m : ℕ) (words old_table old_list : List ℕ) (answer : Step) (new_table new_list : List ℕ) : Type 0 where
  pub counts : answer ≡ step.Next (n + 1) m
  pub inside : suc n ≤ 1024
  pub table : take (35 * (n + 1)) new_table ≡ take (35 * n) old_table ++ words
  pub list : new_list ≡ old_list
  pub long : length new_table ≡ length old_table

pub record RootJoined (n m k : ℕ) (old_table old_list : List ℕ) (answer : Step) (new_table new_list : List ℕ) : Type 0 where
  pub counts : answer ≡ step.Next n (m + 1)
  pub inside : suc m ≤ 64
  pub table : take (35 * n) new_table ≡ take (35 * n) old_table
  pub list : new_list ≡ set old_list m k
  pub long : length new_table ≡ length old_table

abbrev pub Stepped : ℕ → ℕ → Outcome Item → List ℕ → List ℕ → Step → List ℕ → List ℕ → Type 0
Stepped n m (ok (a_row x)) old_table old_list answer new_table new_list = RowJoined n m (row_words x) old_table old_list answer new_table new_list
Stepped n m (ok (a_root k)) old_table old_list answer new_table new_list = RootJoined n m k old_table old_list answer new_table new_list
Stepped n m (refused q) old_table old_list answer new_table new_list = answer ≡ step.Refused q.number

-- a table in the words and places that hold it
pub record Holds (t : Table) (n m : ℕ) (words list : List ℕ) : Type 0 where
  pub rows_many : length t.rows ≡ n
  pub roots_many : length t.roots ≡ m
  pub rows_few : n ≤ 1024
  pub roots_few : m ≤ 64
  pub rows_are : take (35 * n) words ≡ table_words t.rows
  pub roots_are : take m list ≡ t.roots
  pub words_long : 35875 ≤ length words
  pub list_long : 64 ≤ length list

abbrev pub empty : Table
empty = record { rows = []; roots = [] }

-- the records' outcome: all rows and roots with the count of records, or the first refusal
abbrev pub Outcomes : List ℕ → Outcome Table → Records → List ℕ → List ℕ → Type 0
Outcomes s (ok t) (records.All n m i) words list = Holds t n m words list × (i ≡ length (records_from [] s))
Outcomes s (ok t) (records.Refused q i) words list = ⊥
Outcomes s (refused r) (records.All n m i) words list = ⊥
Outcomes s (refused r) (records.Refused q i) words list = (q ≡ r.number) × (i ≡ r.place)

abbrev pub AllRead : List ℕ → Records → List ℕ → List ℕ → Type 0
AllRead s answer words list = Outcomes s (load_records 0 (records_from [] s) empty) answer words list
