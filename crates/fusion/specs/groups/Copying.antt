-- What copying the arms of one number of some switches answers and leaves, by cases (01, "Scoped fusion"). Assumes nothing.
use Rattle.std.specs.Prelude.{ℕ, Bool, true, false, ◌&&◌, List, [], ◌∷◌, ◌++◌, length, drop, leb, ltb, Result, Ok, Err}
use Rattle.spec_tree.specs.Tokens.{trees_in}
use Rattle.words.specs.words.Words.{some_trees}
use Rattle.laws.specs.switches.Switches.{switch_at, arm_count}
use Rattle.laws.specs.switches.Columns.{column_words}
use Rattle.words.specs.declared.fault.Fault.{Fault}
use Rattle.words.specs.declared.fault.Fault.TheVariants as fault

-- whether a switch stands at a place, with an arm of number a
unfoldable pub armed_at : List ℕ → ℕ → ℕ → Bool
unfolding switch_at arm_count
armed_at ws a q = ltb q (length ws) && (switch_at ws q && ltb a (arm_count ws q))

-- at each of some places
unfoldable pub all_armed : List ℕ → ℕ → List ℕ → Bool
unfolding armed_at
all_armed ws a [] = true
all_armed ws a (q ∷ qs) = armed_at ws a q && all_armed ws a qs

-- what copying answers, and the words lent after it
pub record Copying : Type 0 where
  pub answer : Result ℕ Fault
  pub out : List ℕ

-- by whether the arms are there, and whether they fit: in front of what stood after as many, or nothing written
unfoldable pub copying_by : Bool → Bool → List ℕ → List ℕ → Copying
copying_by false fits new old = record { answer = Err fault.Broken; out = old }
copying_by true false new old = record { answer = Err fault.NoRoom; out = old }
copying_by true true new old = record { answer = Ok (length new); out = new ++ drop (length new) old }

-- no word lacks an operand, and each place has such an arm
unfoldable pub column_there : List ℕ → ℕ → List ℕ → Bool
unfolding trees_in some_trees all_armed
column_there ws a qs = some_trees (trees_in ws) && all_armed ws a qs

unfoldable pub copying : List ℕ → List ℕ → ℕ → List ℕ → Copying
unfolding copying_by column_there column_words
copying ws qs a old = copying_by (column_there ws a qs) (leb (length (column_words ws qs a)) (length old)) (column_words ws qs a) old
