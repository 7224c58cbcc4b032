-- What fusing answers and leaves, by cases. Assumes nothing.
use Rattle.std.specs.Prelude.{ℕ, ◌≡◌, Bool, true, false, ◌&&◌, List, [], ◌∷◌, ◌++◌, length, take, drop, leb, Result, Ok, Err, Option, Some, None}
use Rattle.std.proofs.Math.Option as maybe
use Rattle.std.proofs.Math.Option.{none, some}
use Rattle.spec_tree.specs.Tokens.{trees_in}
use Rattle.words.specs.words.Words.{some_trees}
use Rattle.fusion.specs.Words.{fused_words}
use Rattle.words.specs.declared.fault.Fault.{Fault}
use Rattle.words.specs.declared.fault.Fault.TheVariants as fault

unfoldable pub stepped_answer : maybe.Option (List ℕ) → Option ℕ
stepped_answer none = None
stepped_answer (some new) = Some (length new)

-- the new words stand in front
unfoldable pub Front : maybe.Option (List ℕ) → List ℕ → Type 0
Front none out = Unit {0}
Front (some new) out = take (length new) out ≡ new

-- what fusing answers, and the words lent after it
pub record Fusing : Type 0 where
  pub answer : Result ℕ Fault
  pub out : List ℕ

-- by whether the trees and a number for each member are there, whether there is room for them, and what they become: the new words in front of what stood after as
-- many, or nothing written
unfoldable pub fusing_by : Bool → Bool → maybe.Option (List ℕ) → List ℕ → Fusing
fusing_by false room new old = record { answer = Err fault.Broken; out = old }
fusing_by true false new old = record { answer = Err fault.NoRoom; out = old }
fusing_by true true none old = record { answer = Err fault.Broken; out = old }
fusing_by true true (some new) old = record { answer = Ok (length new); out = new ++ drop (length new) old }

-- the first words are there, none lacks an operand, and no member lacks a number
unfoldable pub all_there : List ℕ → ℕ → ℕ → ℕ → Bool
unfolding trees_in some_trees
all_there ws len places numbers = leb len (length ws) && (some_trees (trees_in (take len ws)) && leb places numbers)

-- each number has a word
unfoldable pub all_small : List ℕ → Bool
all_small [] = true
all_small (n ∷ l) = leb n 549755813888 && all_small l

unfoldable pub room_for : ℕ → List ℕ → Bool
unfolding all_small
room_for len numbers = leb len 1929 && all_small numbers

-- the first `len` words with the members at places replaced
unfoldable pub fusing : List ℕ → List ℕ → List ℕ → List ℕ → ℕ → Fusing
unfolding fusing_by all_there room_for fused_words
fusing base places numbers old len =
    fusing_by (all_there old len (length places) (length numbers)) (room_for len (take (length places) numbers)) (fused_words base places numbers (take len old)) old
