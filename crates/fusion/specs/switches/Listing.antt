-- What the functions that list switches are lent and leave, and what listing answers, by cases (01, "Scoped fusion"). Assumes nothing.
use Rattle.std.specs.Prelude.{ℕ, ◌≤◌, ◌<◌, ◌≡◌, Bool, true, false, ◌&&◌, List, [], ◌∷◌, ◌++◌, length, take, drop, leb, Result, Ok, Err}
use Rattle.spec_tree.specs.Kinds.{is_switch}
use Rattle.spec_tree.specs.Tokens.{kind_of, takes, trees_in}
use Rattle.laws.specs.positions.Places.{outside_at}
use Rattle.words.specs.words.Words.{some_trees}
use Rattle.rounds.specs.uses.Marks.{is_marked}
use Rattle.laws.specs.switches.Switches.{switch_places}
use Rattle.words.specs.declared.fault.Fault.{Fault}
use Rattle.words.specs.declared.fault.Fault.TheVariants as fault
use Rattle.fusion.specs.declared.switches.SwitchError.{SwitchError}
use Rattle.fusion.specs.declared.switches.SwitchError.TheVariants as switch_error

-- whether a word is a switch's, with a key at least
unfoldable pub switch_word : ℕ → Bool
unfolding takes
switch_word w = is_switch (kind_of w) && leb 1 (takes w)

-- each place is below n
abbrev pub Inside : ℕ → List ℕ → Type 0
Inside n [] = Unit {0}
Inside n (q ∷ l) = (q < n) × Inside n l

-- the places outside arms are marked
pub record Outsides (ws marks : List ℕ) : Type 0 where
  pub long : length ws ≤ length marks
  pub marked : (j : ℕ) → j < length ws → is_marked marks j ≡ outside_at ws true j

-- places stand in front, n of them, and everything after is as it was
pub record Listed (new old : List ℕ) (n : ℕ) (out : List ℕ) : Type 0 where
  pub count : n ≡ length new
  pub places : out ≡ new ++ drop (length new) old

-- what is wrong with words, as an error of listing
abbrev pub switch_error_of : Fault → SwitchError
switch_error_of fault.Broken = switch_error.Broken
switch_error_of fault.NoRoom = switch_error.NoRoom

-- what listing answers, and the places lent after it
pub record Listing : Type 0 where
  pub answer : Result ℕ SwitchError
  pub out : List ℕ

-- by whether there is a place for each: the places in front of what stood after as many, or the first of them, in every place lent
unfoldable pub put_by : Bool → List ℕ → List ℕ → Listing
put_by true new old = record { answer = Ok (length new); out = new ++ drop (length new) old }
put_by false new old = record { answer = Err switch_error.TooMany; out = take (length old) new }

unfoldable pub put_front : List ℕ → List ℕ → Listing
unfolding put_by
put_front new old = put_by (leb (length new) (length old)) new old

-- by whether no word lacks an operand, and whether there is a mark for each word: what is put, or nothing
unfoldable pub listing_by : Bool → Bool → List ℕ → List ℕ → Listing
unfolding put_front
listing_by false marked new old = record { answer = Err switch_error.Broken; out = old }
listing_by true false new old = record { answer = Err switch_error.NoRoom; out = old }
listing_by true true new old = put_front new old

-- by the words, how many marks are lent, and the places lent
unfoldable pub listing : List ℕ → ℕ → List ℕ → Listing
unfolding listing_by trees_in some_trees switch_places
listing ws marks old = listing_by (some_trees (trees_in ws)) (leb (length ws) marks) (switch_places ws) old
