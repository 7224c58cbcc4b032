-- What the end of flat extraction answers, and what it leaves in the table, by cases. Assumes nothing.
use Rattle.std.specs.Prelude.{ℕ, ◌+◌, ◌≤◌, ◌≡◌, Bool, true, false, ◌&&◌, List, ◌++◌, length, drop, leb, Result, Ok, Err}
use Rattle.std.proofs.Math.Option.{Option, none, some}
use Rattle.refusal.specs.declared.Refusal.{Refusal}
use Rattle.refusal.specs.Numbers.{number_of}
use Rattle.spec_tree.specs.Outcome.{Outcome, ok, refused}
use Rattle.spec_tree.specs.Tokens.{read, numbered, trees_in}
use Rattle.spec_cse.specs.Call.{Extracted}
use Rattle.reciprocals.specs.reciprocal.Bindings.{all_there}
use Rattle.reciprocals.specs.final.Final.{final_rows}
use Rattle.cse_flat.specs.declared.ending.FinishError.{FinishError}
use Rattle.cse_flat.specs.declared.ending.FinishError.TheVariants as finish_error

-- a refusal by its number
abbrev pub by_number : Result ℕ Refusal → Result ℕ ℕ
by_number (Ok n) = Ok n
by_number (Err r) = Err (number_of r)

-- what it answers, how many rows or the number of the refusal, and the table after it
pub record Finishing : Type 0 where
  pub answer : Result ℕ ℕ
  pub table : List ℕ

-- the answer's rows in front of what stood after as many, or, refused, nothing written
unfoldable pub finish_outcome : Outcome Extracted → List ℕ → Finishing
finish_outcome (ok x) old = record { answer = Ok (length x.words); table = x.words ++ drop (length x.words) old }
finish_outcome (refused i) old = record { answer = Err i.number; table = old }

-- at least k trees
unfoldable pub at_least : ℕ → Option ℕ → Bool
at_least k none = false
at_least k (some m) = leb k m

-- no word lacks an operand, the results are there, and a tree stands at each place
unfoldable pub trees_there : List ℕ → ℕ → List ℕ → Bool
unfolding at_least trees_in all_there
trees_there ws k places = at_least k (trees_in ws) && all_there ws places

-- at most 1,024 words, and 1,024 bindings with the reciprocals
unfoldable pub room_for : List ℕ → ℕ → List ℕ → Bool
unfolding read
room_for ws k places = leb (length ws) 1024 && leb (length (drop k (read numbered ws)) + length places) 1024

-- ---- what `finish` answers, which tests what it is given

-- how many rows or the number of the refusal, or that the trees aren't there, or that there is no room for them
pub data Tested : Type 0 where
  Ended : Result ℕ ℕ → Tested
  Broken : Tested
  NoRoom : Tested

-- what the code answers, so told
abbrev pub tested : Result ℕ FinishError → Tested
tested (Ok n) = Ended (Ok n)
tested (Err (finish_error.Refused r)) = Ended (Err (number_of r))
tested (Err finish_error.Broken) = Broken
tested (Err finish_error.NoRoom) = NoRoom

-- what it answers, and the table after it
pub record TestedFinishing : Type 0 where
  pub answer : Tested
  pub table : List ℕ

-- by whether the trees are there, and whether there is room for them
unfoldable pub finish_by : Bool → Bool → Outcome Extracted → List ℕ → TestedFinishing
unfolding finish_outcome
finish_by false room o old = record { answer = Broken; table = old }
finish_by true false o old = record { answer = NoRoom; table = old }
finish_by true true o old = record { answer = Ended (finish_outcome o old).answer; table = (finish_outcome o old).table }

-- the whole of it, from the words, how many of their trees are results, the places of the divisors to bind and the
-- table lent
unfoldable pub finishing : List ℕ → ℕ → List ℕ → List ℕ → TestedFinishing
unfolding finish_by trees_there room_for final_rows
finishing ws k places old = finish_by (trees_there ws k places) (room_for ws k places) (final_rows (length old) k places ws) old

-- how many words are lent to the end: for the settled trees and where they begin, for one tree, for the bindings in order and what they wait for, and for links or
-- a table of bits
pub record Room (ws : List ℕ) (k : ℕ) (places : List ℕ) (settled starts tree taken waiting work : ℕ) : Type 0 where
  pub for_settled : length ws ≤ settled
  pub for_starts : length ws ≤ starts
  pub for_tree : length ws + 2 ≤ tree
  pub for_taken : length (drop k (read numbered ws)) + length places ≤ taken
  pub for_waiting : length (drop k (read numbered ws)) + length places ≤ waiting
  pub for_links : work ≡ 65536
