-- What extract that is called from another language returns and leaves in each slice that is lent (01, "Turned down": Extract). Assumes nothing.
use Rattle.std.specs.Prelude.{ℕ, List, ◌∷◌, drop}
use Rattle.cse_flat.specs.Extraction.{Extraction}
use Rattle.cse_flat.specs.Extraction as extraction
use Rattle.capi.specs.Calls.{Calls}

-- 0 for an answer, and 01's number for a list that is refused
unfoldable pub extracted_number : Extraction → ℕ
extracted_number (extraction.Rows n m) = 0
extracted_number (extraction.Refused q) = q

-- how many rows and the extraction count, in front of what the answer held
unfoldable pub extracted_answer : Extraction → List ℕ → List ℕ
extracted_answer (extraction.Rows n m) old = n ∷ (m ∷ drop 2 old)
extracted_answer (extraction.Refused q) old = old

-- what extract answers and the table after it
abbrev pub Extracts : Extraction → List ℕ → List ℕ → List ℕ → ℕ → List ℕ → List ℕ → Type 0
Extracts x table old_table old_answer = Calls 2 (extracted_number x) table (extracted_answer x old_answer) old_table old_answer
