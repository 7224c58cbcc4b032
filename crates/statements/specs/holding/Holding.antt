-- What a scope holds as words (01, "Reciprocals", "Scoped fusion"): its trees settled by all divisors, and after them those reciprocals that hold a switch. What holding
-- answers and leaves, by cases. Assumes nothing.
use Rattle.std.specs.Prelude.{ℕ, ◌≤◌, ◌≡◌, Bool, true, false, ◌&&◌, List, map, length, take, drop, leb, Result, Ok, Err}
use Rattle.spec_tree.specs.Tokens.{all_tokens, read, numbered, trees_in}
use Rattle.words.specs.words.Words.{number, some_trees, Complete}
use Rattle.laws.specs.positions.Places.{numbered_at}
use Rattle.reciprocals.proofs.bindings.Parts.{settle_tree, settled_reciprocals}
use Rattle.reciprocals.specs.reciprocal.Bindings.{all_there}
use Rattle.fusion.specs.Switchless.{with_switches}
use Rattle.fusion.specs.place.Overlay.{overlay}
use Rattle.fusion.specs.place.Parts.{words_held}
use Rattle.statements.specs.declared.holding.HoldError.{HoldError}
use Rattle.statements.specs.declared.holding.HoldError.TheVariants as hold_error

-- ---- the parts of what is held

-- the trees settled by every divisor
unfoldable pub settled_held : List ℕ → ℕ → List ℕ → List ℕ
unfolding all_tokens read numbered_at
settled_held ws n places = all_tokens number (map (settle_tree (map (numbered_at ws) places) n) (read numbered ws))

-- the reciprocals from number j on, those that hold a switch
unfoldable pub reciprocals_held : List ℕ → ℕ → List ℕ → ℕ → List ℕ
unfolding all_tokens numbered_at with_switches
reciprocals_held ws n places j = all_tokens number (with_switches (drop j (settled_reciprocals (map (numbered_at ws) places) n)))

-- the one of number j
unfoldable pub reciprocal_words : List ℕ → ℕ → List ℕ → ℕ → List ℕ
unfolding all_tokens numbered_at
reciprocal_words ws n places j = all_tokens number (take 1 (drop j (settled_reciprocals (map (numbered_at ws) places) n)))

-- and it, if it holds a switch
unfoldable pub reciprocal_held : List ℕ → ℕ → List ℕ → ℕ → List ℕ
unfolding all_tokens numbered_at with_switches
reciprocal_held ws n places j = all_tokens number (with_switches (take 1 (drop j (settled_reciprocals (map (numbered_at ws) places) n))))

-- ---- what may be held

-- no word lacks an operand, and a tree stands at each place
unfoldable pub whole_there : List ℕ → List ℕ → Bool
unfolding trees_in some_trees all_there
whole_there ws places = some_trees (trees_in ws) && all_there ws places

-- as many words lent as there are, so that the settled trees always have room
unfoldable pub room_to_hold : ℕ → ℕ → ℕ → ℕ → Bool
room_to_hold words places first lent = leb words 1927 && (leb first 4294967296 && (leb places 4294967296 && leb words lent))

-- both, as the parts of the work ask it
abbrev pub Ready : List ℕ → List ℕ → ℕ → Type 0
Ready ws places first = (Complete ws × (all_there ws places ≡ true)) × ((length ws ≤ 1927) × ((first ≤ 4294967296) × (length places ≤ 4294967296)))

-- ---- what holding answers, and the words lent after it

pub record Holding : Type 0 where
  pub answer : Result ℕ HoldError
  pub out : List ℕ

-- by whether the trees are there, whether there is room, and whether what is held is no longer than the words lent. It is written over a copy of the trees, and its words
-- past the end are dropped.
unfoldable pub holding_by : Bool → Bool → Bool → List ℕ → List ℕ → List ℕ → Holding
holding_by false room few ws new old = record { answer = Err hold_error.Broken; out = old }
holding_by true false few ws new old = record { answer = Err hold_error.NoRoom; out = old }
holding_by true true false ws new old = record { answer = Err hold_error.TooMany; out = overlay 0 new (overlay 0 ws old) }
holding_by true true true ws new old = record { answer = Ok (length new); out = overlay 0 new (overlay 0 ws old) }

unfoldable pub holding : List ℕ → List ℕ → ℕ → List ℕ → Holding
unfolding holding_by whole_there room_to_hold words_held
holding ws places first old =
    holding_by (whole_there ws places) (room_to_hold (length ws) (length places) first (length old)) (leb (length (words_held ws first places)) (length old)) ws (words_held ws first places) old
