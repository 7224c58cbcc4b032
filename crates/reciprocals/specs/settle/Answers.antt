-- What settling answers and leaves, by cases. Assumes nothing.
use Rattle.std.specs.Prelude.{ℕ, ◌+◌, ◌≡◌, Bool, true, false, ◌&&◌, List, ◌++◌, length, take, drop, leb}
use Rattle.std.proofs.Math.Option.{Option, none, some}
use Rattle.spec_tree.specs.Tokens.{trees_in}
use Rattle.words.specs.words.Words.{some_trees}
use Rattle.reciprocals.specs.settle.Steps.{settled_words}
use Rattle.std.specs.Prelude as answer
use Rattle.std.specs.Prelude.{Result, Ok, Err}
use Rattle.words.specs.declared.fault.Fault.{Fault}
use Rattle.words.specs.declared.fault.Fault.TheVariants as fault

unfoldable pub stepped_answer : Option (List ℕ) → answer.Option ℕ
stepped_answer none = answer.None
stepped_answer (some new) = answer.Some (length new)

-- the new words stand in front
unfoldable pub Front : Option (List ℕ) → List ℕ → Type 0
Front none out = Unit {0}
Front (some new) out = take (length new) out ≡ new

-- what settling answers, and the words lent after it
pub record Settling : Type 0 where
  pub answer : Result ℕ Fault
  pub out : List ℕ

-- by whether the trees are there, whether there is room for them, and what they become: the new words in front of what stood after as many, or nothing written
unfoldable pub settling_by : Bool → Bool → Option (List ℕ) → List ℕ → Settling
settling_by false room new old = record { answer = Err fault.Broken; out = old }
settling_by true false new old = record { answer = Err fault.NoRoom; out = old }
settling_by true true none old = record { answer = Err fault.Broken; out = old }
settling_by true true (some new) old = record { answer = Ok (length new); out = new ++ drop (length new) old }

-- the first words are there, and none lacks an operand
unfoldable pub forest_there : List ℕ → ℕ → Bool
unfolding trees_in some_trees
forest_there ws len = leb len (length ws) && some_trees (trees_in (take len ws))

unfoldable pub room_for : ℕ → ℕ → ℕ → Bool
room_for len first places = leb len 1929 && (leb first 4294967296 && leb places 4294967296)

-- the first `len` words settled by the steps from number `from` on
unfoldable pub settling : List ℕ → List ℕ → ℕ → ℕ → List ℕ → ℕ → Settling
unfolding settling_by forest_there room_for settled_words
settling base places from first old len =
    settling_by (forest_there old len) (room_for len first (length places)) (settled_words base (drop from places) (first + from) (take len old)) old
