-- What extract answers, by cases, with 01's number and values for each (01, "Turned down": Extract); and what rounds with the divisors to bind leave. Assumes nothing.
use Rattle.std.specs.Prelude.{ℕ, Bool, List, length, Result, Ok, Err}
use Rattle.refusal.specs.declared.Refusal.{Refusal}
use Rattle.refusal.specs.Numbers.{number_of}
use Rattle.spec_tree.specs.Outcome.{Outcome, ok, refused}
use Rattle.spec_tree.specs.Rows.{Row}
use Rattle.spec_cse.specs.Call.{Extracted}
use Rattle.cse_flat.specs.refined.Parts.{RoundsListed, RoundsRefused}
use Rattle.cse_flat.specs.Extraction.{Extraction}
use Rattle.cse_flat.specs.Extraction as extraction
use Rattle.cse_flat.specs.declared.Extracted.{Extracted as RowsExtracted}
use Rattle.cse_flat.specs.declared.Listed.{Listed}
use Rattle.replace.specs.declared.NotConstant.{NotConstant}

unfoldable pub extraction_answer : Outcome Extracted → Extraction
extraction_answer (ok x) = extraction.Rows (length x.words) x.extracted
extraction_answer (refused r) = extraction.Refused r.number

-- what the code answers, so told
abbrev pub told : Result RowsExtracted Refusal → Extraction
told (Ok x) = extraction.Rows x.rows x.count
told (Err r) = extraction.Refused (number_of r)

-- the words after the rounds stand in front, and so do the places of their divisors to bind; or the rounds are refused
abbrev pub Lists : List Row → Bool → ℕ → List ℕ → Result Listed NotConstant → List ℕ → List ℕ → Type 0
Lists rows scoped first ws (Ok l) tokens places = RoundsListed rows scoped first ws l.words l.made l.divisors tokens places
Lists rows scoped first ws (Err e) tokens places = RoundsRefused rows scoped first ws
