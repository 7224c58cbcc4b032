-- Where the trees that words are begin, and what listing them answers and leaves, by cases. Assumes nothing.
use Rattle.std.specs.Prelude.{ℕ, ◌+◌, Bool, true, false, List, [], ◌∷◌, ◌++◌, length, drop, leb, Result, Ok, Err}
use Rattle.std.proofs.Math.Option.{Option, none, some}
use Rattle.spec_tree.specs.Tree.{Tree}
use Rattle.spec_tree.specs.Facts.{size}
use Rattle.spec_tree.specs.Tokens.{read, numbered, trees_in}
use Rattle.words.specs.declared.fault.Fault.{Fault}
use Rattle.words.specs.declared.fault.Fault.TheVariants as fault

-- the places of trees that stand one after another from i on
unfoldable pub starts_from : ℕ → List Tree → List ℕ
unfolding size
starts_from i [] = []
starts_from i (t ∷ ts) = i ∷ starts_from (i + size t) ts

unfoldable pub starts_of : List ℕ → List ℕ
unfolding starts_from read
starts_of ws = starts_from 0 (read numbered ws)

-- what listing answers, and the words lent after it
pub record TreeListing : Type 0 where
  pub answer : Result ℕ Fault
  pub out : List ℕ

-- by whether there is a place for each of n trees: the places in front of what stood after as many, or nothing written
unfoldable pub listing_room : Bool → ℕ → List ℕ → List ℕ → TreeListing
listing_room false n new old = record { answer = Err fault.NoRoom; out = old }
listing_room true n new old = record { answer = Ok n; out = new ++ drop n old }

-- by how many trees there are, if no word lacks an operand
unfoldable pub listing_by : Option ℕ → List ℕ → List ℕ → TreeListing
unfolding listing_room
listing_by none new old = record { answer = Err fault.Broken; out = old }
listing_by (some n) new old = listing_room (leb n (length old)) n new old

unfoldable pub tree_listing : List ℕ → List ℕ → TreeListing
unfolding listing_by trees_in starts_of
tree_listing ws old = listing_by (trees_in ws) (starts_of ws) old
