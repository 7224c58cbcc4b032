-- The best place so far, place by place (01, "Extraction"), and what its search is lent: the facts and the marks of places, and bytes for two texts.
-- Assumes nothing.
use Rattle.std.specs.Prelude.{ℕ, ◌+◌, ◌*◌, ◌/◌, ◌≤◌, ◌<◌, ◌≡◌, Bool, true, ◌&&◌, ◌||◌, cond, List, length, get_or, T, eqb, ltb}
use Rattle.std.proofs.Math.Option.{Option, none, some}
use Rattle.spec_tree.specs.Facts.{cost, depth, has_symbol}
use Rattle.spec_tree.specs.Bytes.{every}
use Rattle.spec_tree.specs.Tokens.{flag, kind_of, name_in}
use Rattle.spec_tree.specs.text.Text.{before}
use Rattle.fmt.specs.checked.Check.{rows_in, word_ok}
use Rattle.rounds.specs.uses.Marks.{Complete, is_marked}
use Rattle.rounds.specs.value_numbers.Tables as tables
use Rattle.laws.specs.positions.Places.{numbered_at, uses_at, savings_at, candidate_at, equal_places, outside_at, text_at, beats_at, best_place}

-- four words of facts a place, of which these are looked up
pub record HasFacts (ws fs : List ℕ) : Type 0 where
  pub long : 4 * length ws ≤ length fs
  pub cost_at : (i : ℕ) → i < length ws → get_or fs (4 * i + 1) 0 ≡ cost (numbered_at ws i)
  pub depth_at : (i : ℕ) → i < length ws → get_or fs (4 * i + 2) 0 ≡ depth (numbered_at ws i)
  pub symbol_at : (i : ℕ) → i < length ws → get_or fs (4 * i + 3) 0 ≡ flag (has_symbol (numbered_at ws i))

-- the places outside arms are marked
pub record HasMarks (ws : List ℕ) (scoped : Bool) (marks : List ℕ) : Type 0 where
  pub long : length ws ≤ length marks
  pub marked : (j : ℕ) → j < length ws → is_marked marks j ≡ outside_at ws scoped j

-- by its class, how many places have the operation at each
pub record HasUses (ws cl us : List ℕ) : Type 0 where
  pub long_classes : length ws ≤ length cl
  pub within : (i : ℕ) → i < length ws → 1 < kind_of (get_or ws i 0) → get_or cl i 0 / 4 < length ws
  pub long : length ws ≤ length us
  pub uses_are : (i : ℕ) → i < length ws → 1 < kind_of (get_or ws i 0) → get_or us (get_or cl i 0 / 4) 0 ≡ uses_at ws i

-- and, in the scoped form, how many of them are outside arms
pub record HasOutside (ws : List ℕ) (scoped : Bool) (cl ou : List ℕ) : Type 0 where
  pub long : length ws ≤ length ou
  pub outside_are : scoped ≡ true → (i : ℕ) → i < length ws → 1 < kind_of (get_or ws i 0) → get_or ou (get_or cl i 0 / 4) 0 ≡ equal_places ws (outside_at ws scoped) i (length ws)

-- all that was worked out of the places of words, none of which lacks an operand
pub record Worked (ws : List ℕ) (scoped : Bool) (fs cl us ou : List ℕ) : Type 0 where
  pub complete : Complete ws
  pub few : length ws ≤ 1927
  pub fits : (j : ℕ) → get_or ws j 0 < 18446744073709551616
  pub facts : HasFacts ws fs
  pub classes : tables.Known ws 0 cl
  pub uses : HasUses ws cl us
  pub outside : HasOutside ws scoped cl ou

-- every tree can be written, and two texts fit
pub record Writable (rows ws : List ℕ) (room : ℕ) : Type 0 where
  pub pass : T (every (word_ok (rows_in rows)) ws)
  pub fits : 68 * length ws ≤ room

-- two forms have the same candidates
abbrev pub Alike : List ℕ → Bool → Bool → Type 0
Alike ws one other = (i : ℕ) → candidate_at ws one i ≡ candidate_at ws other i

-- ---- the place that leads, with what it saves: none where that is 0

unfoldable pub leader_of : ℕ → ℕ → Option ℕ
leader_of place savings = cond (eqb savings 0) none (some place)

pub record Leading (ws : List ℕ) (place savings : ℕ) : Type 0 where
  pub within : place < length ws
  pub saves : savings ≡ savings_at ws place

abbrev pub Lead : List ℕ → ℕ → ℕ → Type 0
Lead ws place savings = (savings ≡ 0 → ⊥) → Leading ws place savings

-- of two places that save as much, the second is deeper or its text is later
unfoldable pub later_at : List ℕ → List ℕ → ℕ → ℕ → Bool
unfolding depth numbered_at before text_at
later_at rows ws i j =
    ltb (depth (numbered_at ws i)) (depth (numbered_at ws j))
    || (eqb (depth (numbered_at ws i)) (depth (numbered_at ws j)) && before (text_at ws (name_in (rows_in rows)) i) (text_at ws (name_in (rows_in rows)) j))

-- the leader after one more place
unfoldable pub best_step : List ℕ → List ℕ → Bool → Option ℕ → ℕ → Option ℕ
unfolding candidate_at beats_at
best_step rows ws scoped none i = cond (candidate_at ws scoped i) (some i) none
best_step rows ws scoped (some a) i = cond (candidate_at ws scoped i && beats_at ws (name_in (rows_in rows)) a i) (some i) (some a)

-- the leader of all
pub record Leads (rows ws : List ℕ) (scoped : Bool) (place savings : ℕ) : Type 0 where
  pub best : leader_of place savings ≡ best_place ws (name_in (rows_in rows)) scoped
