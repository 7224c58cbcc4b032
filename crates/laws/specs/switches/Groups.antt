-- Which of some switches are fused in one match, by places and by numbers in the list of places (01, "Scoped fusion"). Assumes nothing.
use Prim.Native.Nat.{ℕ, zero, suc}
use Rattle.std.specs.Prelude.{Bool, ◌&&◌, length, get_or, drop}
use Rattle.std.proofs.Math.Bool.{true, false}
use mathlib.Core.List.{List, [], ◌∷◌, ◌++◌, map}
use Rattle.std.proofs.Math.Dec.{eqb}
use Rattle.spec_tree.specs.Tree.{eq_tree}
use Rattle.spec_tree.specs.Tokens.{kind_of}
use Rattle.laws.specs.positions.Places.{numbered_at}
use Rattle.spec_cse.specs.Scope.{Switch, Group}
use Rattle.laws.specs.switches.Switches.{key_place, arm_count, switch_there}

-- of some places the one of number i
unfoldable pub member : List ℕ → ℕ → ℕ
member ps i = get_or ps i 0

module _ (ws : List ℕ) where
  -- equal kind of switch, key, arm count and default
  unfoldable pub joins_at : ℕ → ℕ → Bool
  unfolding eq_tree numbered_at key_place arm_count
  joins_at p q =
      eqb (kind_of (get_or ws p 0)) (kind_of (get_or ws q 0))
      && (eq_tree (numbered_at ws (key_place p)) (numbered_at ws (key_place q)) && eqb (arm_count ws p) (arm_count ws q))

  module _ (ps : List ℕ) where
    -- of the n members from number j on, the number of the first that i joins; if it joins none, the number past them
    unfoldable pub first_joined : ℕ → ℕ → ℕ → ℕ
    unfolding joins_at member
    first_joined i j zero = j
    first_joined i j (suc n) = elim (joins_at (member ps j) (member ps i)) [ true ↦ j | false ↦ first_joined i (suc j) n ]

    -- the number of the first of i's group: i itself where it opens one
    unfoldable pub group_first : ℕ → ℕ
    unfolding first_joined
    group_first i = first_joined i 0 i

    -- those of the first n that open a group, in order
    unfoldable pub firsts_within : ℕ → List ℕ
    unfolding group_first
    firsts_within zero = []
    firsts_within (suc n) = firsts_within n ++ elim (eqb (group_first n) n) as (λ _. List ℕ) [ true ↦ n ∷ [] | false ↦ [] ]

    unfoldable pub group_numbers : List ℕ
    unfolding firsts_within
    group_numbers = firsts_within (length ps)

    -- those of the n from number j on, which a loop has still to come to
    unfoldable pub firsts_from : ℕ → ℕ → List ℕ
    unfolding group_first
    firsts_from j zero = []
    firsts_from j (suc n) = elim (eqb (group_first j) j) [ true ↦ j ∷ firsts_from (suc j) n | false ↦ firsts_from (suc j) n ]

    -- those of the first n that are in the group that i opens, in order
    unfoldable pub members_within : ℕ → ℕ → List ℕ
    unfolding group_first
    members_within i zero = []
    members_within i (suc n) = members_within i n ++ elim (eqb (group_first n) i) as (λ _. List ℕ) [ true ↦ n ∷ [] | false ↦ [] ]

    -- those of the n from number j on
    unfoldable pub members_from : ℕ → ℕ → ℕ → List ℕ
    unfolding group_first
    members_from i j zero = []
    members_from i j (suc n) = elim (eqb (group_first j) i) [ true ↦ j ∷ members_from i (suc j) n | false ↦ members_from i (suc j) n ]

    -- the members of the group that i opens, i first
    unfoldable pub members_of : ℕ → List ℕ
    unfolding members_within
    members_of i = members_within i (length ps)

    -- and where they stand
    unfoldable pub member_places : ℕ → List ℕ
    unfolding members_of member
    member_places i = map (member ps) (members_of i)

    -- the switch of a member, and the group that i opens
    unfoldable pub member_switch : ℕ → Switch
    unfolding switch_there member
    member_switch i = switch_there ws (member ps i)

    unfoldable pub group_there : ℕ → Group
    unfolding member_switch members_of
    group_there i = record { first = member_switch i; others = map member_switch (drop 1 (members_of i)) }
