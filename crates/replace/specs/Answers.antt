-- What the functions of this crate answer and write. Assumes nothing.
use Rattle.std.specs.Prelude.{◌≡◌, ℕ, ◌/◌, Bool, true, false, ◌||◌, List, ◌++◌, length, drop, nat_lt, Float, Result, Ok, Err}
use Rattle.spec_tree.specs.Outcome.{Outcome, ok, refused}
use Rattle.words.specs.words.Words.{begins_with}
use Rattle.replace.specs.factors.Answers.{flatten_answer}
use Rattle.replace.specs.replacing.Deciding.{StaysAt, PassedAt, RefusedAt, Match, Wrote, Left}
use Rattle.replace.specs.declared.Decision.{Decision}
use Rattle.replace.specs.declared.Decision.TheVariants as decision
use Rattle.replace.specs.declared.NotConstant.{NotConstant}
use Rattle.replace.specs.declared.ReplaceError.{ReplaceError}
use Rattle.replace.specs.declared.ReplaceError.TheVariants as replace_error
use Rattle.words.specs.declared.fault.Fault.{Fault}
use Rattle.words.specs.declared.fault.Fault.TheVariants as fault
use Rattle.replace.specs.declared.Sought.{Sought}
use Rattle.replace.specs.declared.Sought.TheVariants as sought

-- what is wrong with the words, as an answer of `replace`
abbrev pub by_fault : Fault → ReplaceError
by_fault fault.Broken = replace_error.Broken
by_fault fault.NoRoom = replace_error.NoRoom

-- `flatten_mul_factors` answered these for the first tree
pub record FlatFirst (ws : List ℕ) (coefficient : Float) (count : ℕ) (places : List ℕ) : Type 0 where
  pub old : List ℕ
  pub answer : Ok (record { coefficient = coefficient; count = count }) ≡ (flatten_answer ws 0 old).answer
  pub written : places ≡ (flatten_answer ws 0 old).places

-- what becomes of the first of some trees
abbrev pub Decides : List ℕ → ℕ → List ℕ → List ℕ → Result Decision NotConstant → Type 0
Decides part name ws places (Ok decision.Equal) = true ≡ begins_with ws part
Decides part name ws places (Ok decision.Stays) = StaysAt part name ws
Decides part name ws places (Ok (decision.Passed n)) = PassedAt part name ws n
Decides part name ws places (Ok (decision.Matched m)) = Match part name ws places m.left m.copies m.code m.long
Decides part name ws places (Err _) = RefusedAt part name ws

abbrev pub Writes : Outcome (List ℕ) → ℕ → List ℕ → Result ℕ NotConstant → List ℕ → Type 0
Writes o limit old (Ok n) out = Wrote o old n out
Writes o limit old (Err _) out = Left o limit old out

-- by whether the target is sought by its factors, and whether these are none but the name
unfoldable pub sought_as : Bool → Bool → Sought
sought_as false lone = sought.Whole
sought_as true false = sought.Factors
sought_as true true = sought.Endless

-- ---- what `replace` answers, and the words lent after it

pub record Replacement : Type 0 where
  pub answer : Result ℕ ReplaceError
  pub out : List ℕ

-- the new words in front of what stood after as many; the trees as they were, where one is refused
unfoldable pub replaced_by : Outcome (List ℕ) → List ℕ → List ℕ → Replacement
replaced_by (ok new) ws old = record { answer = Ok (length new); out = new ++ drop (length new) old }
replaced_by (refused i) ws old = record { answer = Err replace_error.Refused; out = ws ++ drop (length ws) old }

-- by whether the words may be rewritten, whether there is too little room, and whether there is no end; where nothing is rewritten, nothing is written
unfoldable pub replacement : Bool → Bool → Bool → Outcome (List ℕ) → List ℕ → List ℕ → Replacement
unfolding replaced_by
replacement false short endless o ws old = record { answer = Err replace_error.Broken; out = old }
replacement true true endless o ws old = record { answer = Err replace_error.NoRoom; out = old }
replacement true false true o ws old = record { answer = Err replace_error.Broken; out = old }
replacement true false false o ws old = replaced_by o ws old

abbrev pub Leaves : Replacement → Result ℕ ReplaceError → List ℕ → Type 0
Leaves p r out = (r ≡ p.answer) × (out ≡ p.out)

-- two places for each word, and one for each of the target's
unfoldable pub scratch_short : List ℕ → List ℕ → ℕ → Bool
scratch_short ws part places = nat_lt (places / 2) (length ws) || nat_lt places (length part)

unfoldable pub short_of_room : List ℕ → List ℕ → ℕ → ℕ → Bool
unfolding scratch_short
short_of_room ws part places room = nat_lt room (length ws) || scratch_short ws part places
