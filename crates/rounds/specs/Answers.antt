-- What a round answers and leaves (01, "Extraction"), by cases, and what it is lent. Assumes nothing.
use Rattle.std.specs.Prelude.{ℕ, ◌*◌, ◌≤◌, ◌≡◌, Bool, List, length, take, T, Option, Some, None, Result, Ok, Err}
use Rattle.std.proofs.Math.Option.{none, some}
use Rattle.spec_tree.specs.Outcome.{Refusal, refused}
use Rattle.spec_tree.specs.Rows.{Row}
use Rattle.spec_tree.specs.Tokens.{name_in}
use Rattle.laws.specs.positions.Places.{numbered_at, best_place}
use Rattle.laws.specs.positions.Rounds.{extract_words}
use Rattle.rounds.specs.kept.Sound.{extractable}
use Rattle.rounds.specs.value_numbers.Classes.{chains}
use Rattle.replace.specs.replacing.Deciding.{Wrote}
use Rattle.replace.specs.declared.NotConstant.{NotConstant}

-- enough is lent for n words: of facts, classes, links, chains and counts
pub record Lent (n facts classes next heads uses : ℕ) : Type 0 where
  pub for_facts : 4 * n ≤ facts
  pub for_classes : n ≤ classes
  pub for_next : n ≤ next
  pub for_chains : chains n ≤ heads
  pub for_marks : n ≤ heads
  pub for_uses : n ≤ uses

-- the best place, or none
abbrev pub Finds : List Row → List ℕ → Bool → Option ℕ → Type 0
Finds rows ws scoped (Some p) = best_place ws (name_in rows) scoped ≡ some p
Finds rows ws scoped None = best_place ws (name_in rows) scoped ≡ none

-- the best place of words that may be extracted from
pub record Chosen (rows : List Row) (ws : List ℕ) (scoped : Bool) (at name : ℕ) : Type 0 where
  pub good : T (extractable rows name ws)
  pub best : best_place ws (name_in rows) scoped ≡ some at

-- an extraction's words stand in front, or it is refused
abbrev pub Extracts : List ℕ → ℕ → ℕ → List ℕ → Result ℕ NotConstant → List ℕ → Type 0
Extracts ws at name old (Ok n) out = Wrote (extract_words (numbered_at ws at) name ws) old n out × (n ≤ length ws)
Extracts ws at name old (Err e) out = (i : Refusal) × (extract_words (numbered_at ws at) name ws ≡ refused i)

-- the same in the place of the words, which stay as they were where it is refused
abbrev pub Turns : List ℕ → ℕ → ℕ → ℕ → Result ℕ NotConstant → List ℕ → Type 0
Turns old len at name (Ok n) out = Wrote (extract_words (numbered_at (take len old) at) name (take len old)) old n out
Turns old len at name (Err e) out = ((i : Refusal) × (extract_words (numbered_at (take len old) at) name (take len old) ≡ refused i)) × (out ≡ old)

-- a round: the tree at the best place is extracted, or there is no such place
abbrev pub TurnedSo : List Row → List ℕ → ℕ → Bool → ℕ → Result (Option ℕ) NotConstant → List ℕ → Type 0
TurnedSo rows old len scoped name (Ok (Some n)) out =
    (p : ℕ) × (best_place (take len old) (name_in rows) scoped ≡ some p) × Wrote (extract_words (numbered_at (take len old) p) name (take len old)) old n out
TurnedSo rows old len scoped name (Ok None) out = (best_place (take len old) (name_in rows) scoped ≡ none) × (out ≡ old)
TurnedSo rows old len scoped name (Err e) out =
    (p : ℕ) × (best_place (take len old) (name_in rows) scoped ≡ some p) × ((i : Refusal) × (extract_words (numbered_at (take len old) p) name (take len old) ≡ refused i)) × (out ≡ old)
