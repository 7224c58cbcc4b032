-- What load answers and leaves in what is lent, for each case of its answer (01, "Turned down": Load). Assumes nothing.
use Rattle.std.specs.Prelude.{ℕ, ◌/◌, ◌≡◌, Bool, true, false, List, ◌++◌, length, drop}
use Rattle.spec_tree.specs.Outcome.{Outcome, ok, refused}
use Rattle.spec_tree.specs.Rows.{Table}
use Rattle.node_rows.specs.rows.Check.{laid_in_domain}
use Rattle.spec_sheet.specs.Call.{rows_after, roots_after}
use Rattle.load.specs.Loaded.{Loaded}
use Rattle.load.specs.Loaded as loaded

-- how many rows and roots, or 01's number and the record
abbrev pub answered : Outcome Table → Loaded
answered (ok t) = loaded.Table (length t.rows) (length t.roots)
answered (refused r) = loaded.Refused r.number r.place

pub record Loads (o : Outcome Table) (old_rows old_roots : List ℕ) (answer : Loaded) (new_rows new_roots : List ℕ) : Type 0 where
  pub answer_is : answer ≡ answered o
  pub rows_are : new_rows ≡ rows_after o old_rows
  pub roots_are : new_roots ≡ roots_after o old_roots

-- all rows and roots are read: they are copied where they are within the limits, and 6 otherwise
abbrev pub FinishedBy : Bool → List ℕ → List ℕ → ℕ → List ℕ → List ℕ → Loaded → List ℕ → List ℕ → Type 0
FinishedBy true table list count old_rows old_roots answer new_rows new_roots =
    (answer ≡ loaded.Table (length table / 35) (length list)) × (new_rows ≡ table ++ drop (length table) old_rows) × (new_roots ≡ list ++ drop (length list) old_roots)
FinishedBy false table list count old_rows old_roots answer new_rows new_roots = (answer ≡ loaded.Refused 6 count) × (new_rows ≡ old_rows) × (new_roots ≡ old_roots)

abbrev pub Finished : List ℕ → List ℕ → ℕ → List ℕ → List ℕ → Loaded → List ℕ → List ℕ → Type 0
Finished table list = FinishedBy (laid_in_domain table list) table list
