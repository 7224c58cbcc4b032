-- What all rounds answer and leave (01, "Extraction"), by cases. Assumes nothing.
use Rattle.std.specs.Prelude.{ℕ, ◌≡◌, Bool, List, length, take, drop, Result, Ok, Err}
use Rattle.spec_tree.specs.Outcome.{Outcome, ok, refused}
use Rattle.spec_tree.specs.Rows.{Row}
use Rattle.spec_tree.specs.Facts.{all_operations}
use Rattle.spec_tree.specs.Tokens.{name_in, read, numbered}
use Rattle.laws.specs.positions.Rounds.{rounds_words}
use Rattle.rounds.specs.declared.Rounds.{Rounds}
use Rattle.replace.specs.declared.NotConstant.{NotConstant}

-- all rounds, from words all of whose trees are results: as many as there are operations are enough
unfoldable pub all_rounds : List Row → Bool → ℕ → List ℕ → Outcome (List ℕ)
unfolding rounds_words all_operations read name_in
all_rounds rows scoped first ws = rounds_words (name_in rows) (all_operations (read numbered ws)) scoped (length (read numbered ws)) first ws

-- the words after them, and as many bindings as there are trees past the k results
unfoldable pub rounds_by : Outcome (List ℕ) → ℕ → Result Rounds NotConstant
unfolding read
rounds_by (ok vs) k = Ok (record { words = length vs; made = length (drop k (read numbered vs)) })
rounds_by (refused i) k = Err (record {})

-- The words stand in front, and what stands past the first len is as it was; where rounds are refused the first len are free.
abbrev pub Leaves : Outcome (List ℕ) → ℕ → List ℕ → List ℕ → Type 0
Leaves (ok vs) len old out = (take (length vs) out ≡ vs) × (drop len out ≡ drop len old)
Leaves (refused i) len old out = drop len out ≡ drop len old

unfoldable pub rounds_answer : List Row → List ℕ → ℕ → Bool → ℕ → Result Rounds NotConstant
unfolding all_rounds rounds_by read
rounds_answer rows old len scoped first = let ws = take len old in rounds_by (all_rounds rows scoped first ws) (length (read numbered ws))

abbrev pub LeavesWords : List Row → List ℕ → ℕ → Bool → ℕ → List ℕ → Type 0
LeavesWords rows old len scoped first out = Leaves (all_rounds rows scoped first (take len old)) len old out
