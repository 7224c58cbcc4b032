-- What load that is called from another language returns and leaves in each slice that is lent (01, "Turned down": Load, by 01's numbers). Assumes nothing.
use Rattle.std.specs.Prelude.{ℕ, ◌≡◌, Bool, true, false, List, ◌∷◌, length, drop, leb}
use Rattle.spec_tree.specs.Outcome.{Outcome, ok, refused}
use Rattle.spec_tree.specs.Rows.{Table}
use Rattle.spec_sheet.specs.Call.{rows_after, roots_after}

-- 0 for a sheet that is loaded, and 01's number for one that is refused
unfoldable pub loaded_number : Outcome Table → ℕ
loaded_number (ok t) = 0
loaded_number (refused r) = r.number

-- how many rows and roots, or the record, in front of what the answer held
unfoldable pub loaded_answer : Outcome Table → List ℕ → List ℕ
loaded_answer (ok t) old = length t.rows ∷ (length t.roots ∷ drop 2 old)
loaded_answer (refused r) old = r.place ∷ drop 1 old

pub record LoadsTo (number : ℕ) (rows roots answer : List ℕ) (new_number : ℕ) (new_rows new_roots new_answer : List ℕ) : Type 0 where
  pub number_is : new_number ≡ number
  pub rows_are : new_rows ≡ rows
  pub roots_are : new_roots ≡ roots
  pub answer_is : new_answer ≡ answer

-- by whether the answer has room for two words: if not, 255, and nothing is changed
abbrev pub LoadsBy : Bool → Outcome Table → List ℕ → List ℕ → List ℕ → ℕ → List ℕ → List ℕ → List ℕ → Type 0
LoadsBy true o old_rows old_roots old_answer = LoadsTo (loaded_number o) (rows_after o old_rows) (roots_after o old_roots) (loaded_answer o old_answer)
LoadsBy false o old_rows old_roots old_answer = LoadsTo 255 old_rows old_roots old_answer

abbrev pub Loads : Outcome Table → List ℕ → List ℕ → List ℕ → ℕ → List ℕ → List ℕ → List ℕ → Type 0
Loads o old_rows old_roots old_answer = LoadsBy (leb 2 (length old_answer)) o old_rows old_roots old_answer
