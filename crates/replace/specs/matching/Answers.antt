-- What the functions of matching answer and leave. Assumes nothing.
use Rattle.std.specs.Prelude.{◌≡◌, ℕ, ◌*◌, ◌<◌, ◌≤◌, Bool, true, false, List, length, take, drop, slice_index, Option, Some, None}
use Rattle.std.proofs.Math.Option as maybe
use Rattle.std.proofs.Math.Option.{none, some}
use Rattle.replace.specs.matching.Matching.{is_passed, factor_runs, words_at, PlacesTaken, take_out_places}
use Rattle.replace.specs.declared.matching.Taken.{Taken}

-- the next factor's place is q, or the end
pub record Seeks (part : List ℕ) (from q : ℕ) : Type 0 where
  pub after : from ≤ q
  pub within : q ≤ length part
  pub runs : factor_runs (drop from part) ≡ factor_runs (drop q part)
  pub starts : q < length part → is_passed (slice_index part q) ≡ false

-- what is left stands in front
abbrev pub Removes : maybe.Option (List ℕ) → List ℕ → Option ℕ → Type 0
Removes o new (Some n) = (o ≡ some (take n new)) × (n ≤ length new)
Removes o new None = o ≡ none

-- where this is answered, one is missing
abbrev pub Lacks : maybe.Option (List ℕ) → Bool → Type 0
Lacks o true = o ≡ none
Lacks o false = Unit {0}

-- the places then stand in front
abbrev pub TakenAs : PlacesTaken → List ℕ → ℕ → ℕ → Type 0
TakenAs q new left times = (take left new ≡ q.places) × (left ≤ length new) × (times ≡ q.times)

abbrev pub Takes : List ℕ → List ℕ → ℕ → List ℕ → ℕ → List ℕ → Option Taken → Type 0
Takes ws part name old count new (Some taken) =
    (2 * count ≤ length old) × TakenAs (take_out_places (2 * count) (words_at ws name) (length ws) (factor_runs part) (take count old)) new taken.left taken.times
Takes ws part name old count new None = (length old < 2 * count) × (new ≡ old)
