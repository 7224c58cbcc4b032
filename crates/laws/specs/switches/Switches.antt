-- The switches outside arms as places among words, and where their keys and arms stand (01, "Scoped fusion"). Trees have numbers for names. Assumes nothing.
use Prim.Native.Nat.{ℕ, zero, suc, ◌+◌, ◌-◌}
use Rattle.std.specs.Prelude.{Bool, ◌&&◌, ◌||◌, length, get_or}
use Rattle.std.proofs.Math.Bool.{true, false, not}
use mathlib.Core.List.{List, [], ◌∷◌, ◌++◌, map}
use Rattle.std.proofs.Math.Dec.{leb}
use Rattle.spec_tree.specs.Kinds.{is_switch}
use Rattle.spec_tree.specs.Facts.{size}
use Rattle.spec_tree.specs.Tokens.{kind_of, takes}
use Rattle.laws.specs.positions.Places.{numbered_at, outside_at, second_at, among_places, distinct_places}
use Rattle.spec_cse.specs.Scope.{Switch}

-- a switch's key stands right after it
unfoldable pub key_place : ℕ → ℕ
key_place p = suc p

module _ (ws : List ℕ) where
  -- ---- which places are switches

  -- whether the word at a place is a switch's, with a key at least
  unfoldable pub switch_at : ℕ → Bool
  unfolding takes
  switch_at p = is_switch (kind_of (get_or ws p 0)) && leb 1 (takes (get_or ws p 0))

  -- the switches among the first n places that pass, in order
  unfoldable pub switches_passing : (ℕ → Bool) → ℕ → List ℕ
  unfolding switch_at
  switches_passing test zero = []
  switches_passing test (suc n) = switches_passing test n ++ elim (test n && switch_at n) as (λ _. List ℕ) [ true ↦ n ∷ [] | false ↦ [] ]

  -- of the first n places the switches outside arms, each tree once, where it stands first
  unfoldable pub places_within : ℕ → List ℕ
  unfolding switches_passing distinct_places outside_at
  places_within n = distinct_places ws [] (switches_passing (outside_at ws true) n)

  -- `collect_switches`
  unfoldable pub switch_places : List ℕ
  unfolding places_within
  switch_places = places_within (length ws)

  -- whether a place is a switch outside arms, and none of some places has its tree
  unfoldable pub new_switch : List ℕ → ℕ → Bool
  unfolding switch_at outside_at among_places
  new_switch met n = outside_at ws true n && (switch_at n && not (among_places ws n met))

  -- ---- the parts of a switch

  -- every operand after the first is an arm, the default among them
  unfoldable pub arm_count : ℕ → ℕ
  unfolding takes
  arm_count p = takes (get_or ws p 0) - 1

  -- where the tree begins that stands n trees after the one at q
  unfoldable pub trees_past : ℕ → ℕ → ℕ
  unfolding size numbered_at
  trees_past zero q = q
  trees_past (suc n) q = trees_past n q + size (numbered_at ws (trees_past n q))

  -- where arm number a begins
  unfoldable pub arm_place : ℕ → ℕ → ℕ
  unfolding trees_past second_at
  arm_place p a = trees_past a (second_at ws p)

  -- where the first n arms begin, in order
  unfoldable pub arms_within : ℕ → ℕ → List ℕ
  unfolding arm_place
  arms_within p zero = []
  arms_within p (suc n) = arms_within p n ++ (arm_place p n ∷ [])

  unfoldable pub arm_places : ℕ → List ℕ
  unfolding arms_within arm_count
  arm_places p = arms_within p (arm_count p)

  -- the switch at a place, as collected
  unfoldable pub switch_there : ℕ → Switch
  unfolding numbered_at key_place arm_places
  switch_there p = record { tree = numbered_at ws p; kind = kind_of (get_or ws p 0); key = numbered_at ws (key_place p); arms = map (numbered_at ws) (arm_places p) }
