-- A scope's groups are those at the places of its held words, and their columns are what stands there (01, "Scoped fusion"). Assumes nothing.
use Prim.Native.Nat.{ℕ, zero, suc, ◌<◌}
use native.Mathlib.Omega.{arith}
use mathlib.Core.Path.{◌≡◌, refl, sym, ◌∙◌, ap}
use mathlib.Core.Option.{some}
use mathlib.Core.List.{List, [], ◌∷◌, ◌++◌, map}
use lib.ListN.{length, get_or, drop, length-map}
use Rattle.spec_tree.specs.Tree.{Tree}
use Rattle.spec_tree.specs.Tokens.{read, numbered, trees_in}
use Rattle.spec_tree.proofs.TokenLaws.{complete_length}
use Rattle.spec_cse.specs.Scope.{Group, members, collect_switches, groups_from, arms_of_members}
use Rattle.laws.proofs.cse.SwitchLaws.{length_columns}
use Rattle.laws.specs.positions.Places.{numbered_at}
use Rattle.laws.proofs.positions.WordRounds.{InCode}
use Rattle.laws.specs.switches.Switches.{arm_count, switch_places, switch_there}
use Rattle.laws.specs.switches.Groups.{member, group_first, group_numbers, members_of, member_places, group_there}
use Rattle.laws.specs.switches.Columns.{column_words}
use Rattle.laws.proofs.switches.Collected.{collected_are}
use Rattle.laws.proofs.switches.Grouped.{opener_first, numbers_open, collected_groups}
use Rattle.laws.proofs.switches.GroupColumns.{every_at, first_arms_are, members_by_place, group_column_complete, group_column_read}
use Rattle.reciprocals.proofs.bindings.Parts.{settle_tree, settled_reciprocals}
use Rattle.fusion.specs.Switchless.{with_switches}
use Rattle.fusion.specs.Settled.{group_columns}
use Rattle.fusion.specs.Whole.{settled_roots, scope_groups}
use Rattle.fusion.proofs.Held.{held_enough, groups_held}
use Rattle.fusion.specs.place.Parts.{place_groups, group_at, trees_held, words_held}
use Rattle.scope_laws.proofs.told.Holding.{held_complete, held_read}

-- the groups of the switches of words, by the numbers of their first members
abbrev pub group_of : List ℕ → ℕ → Group
group_of hs i = group_there hs (switch_places hs) i

abbrev pub places_of : List ℕ → ℕ → List ℕ
places_of hs i = member_places hs (switch_places hs) i

abbrev pub numbers_of : List ℕ → List ℕ
numbers_of hs = group_numbers hs (switch_places hs)

-- a number that opens a group
abbrev pub OpensGroup : List ℕ → ℕ → Type 0
OpensGroup hs i = (i < length (switch_places hs)) × (group_first hs (switch_places hs) i ≡ i)

-- the switches that a scope collects are those at the places of its held words
pub scope_switches_are :
    (ws : List ℕ) (n : ℕ) (places : List ℕ) → InCode (settled_roots (map (numbered_at ws) places) n (read numbered ws))
    → collect_switches (settled_roots (map (numbered_at ws) places) n (read numbered ws))
    ≡ map (switch_there (words_held ws n places)) (switch_places (words_held ws n places))
unfolding settled_roots
scope_switches_are ws n places fit =
    let ds = map (numbered_at ws) places in
    let hs = words_held ws n places in
    held_enough (map (settle_tree ds n) (read numbered ws)) (settled_reciprocals ds n)
    ∙ (ap collect_switches (known ∙ sym (held_read ws n places fit)) ∙ collected_are hs (length (trees_held ws n places)) (held_complete ws n places fit))
  where
    known :
        map (settle_tree (map (numbered_at ws) places) n) (read numbered ws) ++ with_switches (settled_reciprocals (map (numbered_at ws) places) n)
        ≡ trees_held ws n places
    known = (unfold trees_held in refl)

pub scope_groups_are :
    (ws : List ℕ) (n : ℕ) (places : List ℕ) → InCode (settled_roots (map (numbered_at ws) places) n (read numbered ws))
    → scope_groups (map (numbered_at ws) places) n (read numbered ws) ≡ map (group_of (words_held ws n places)) (numbers_of (words_held ws n places))
scope_groups_are ws n places fit =
    let hs = words_held ws n places in
    groups_held (map (numbered_at ws) places) n (read numbered ws)
    ∙ (ap (λ (l : List Tree). groups_from [] (collect_switches l)) (known ∙ sym (held_read ws n places fit))
    ∙ collected_groups hs (length (trees_held ws n places)) (held_complete ws n places fit))
  where
    known :
        map (settle_tree (map (numbered_at ws) places) n) (read numbered ws) ++ with_switches (settled_reciprocals (map (numbered_at ws) places) n)
        ≡ trees_held ws n places
    known = (unfold trees_held in refl)

module _ (hs : List ℕ) where
  pub groups_count : length (place_groups hs) ≡ length (numbers_of hs)
  unfolding place_groups
  groups_count = length-map (numbers_of hs) (places_of hs)

  getD_map_in : {A B : Type 0} (f : A → B) (l : List A) (j : ℕ) (a : A) (b : B) → j < length l → get_or (map f l) j b ≡ f (get_or l j a)
  getD_map_in f [] j a b h = absurd (omega arith)
  getD_map_in f (x ∷ l) zero a b h = refl
  getD_map_in f (x ∷ l) (suc j) a b h = getD_map_in f l j a b (omega arith)

  -- group number j
  pub group_places : (j : ℕ) → j < length (numbers_of hs) → group_at (place_groups hs) j ≡ places_of hs (get_or (numbers_of hs) j 0)
  unfolding group_at place_groups
  group_places j h = getD_map_in (places_of hs) (numbers_of hs) j 0 [] h

  pub number_opens : (j : ℕ) → j < length (numbers_of hs) → OpensGroup hs (get_or (numbers_of hs) j 0)
  number_opens j h = every_at (OpensGroup hs) 0 (numbers_of hs) (numbers_open hs (switch_places hs)) j h

  module _ (i : ℕ) (o : OpensGroup hs i) where
    first_is : (l : List ℕ) → l ≡ i ∷ drop 1 l → get_or (map (member (switch_places hs)) l) 0 0 ≡ member (switch_places hs) i
    first_is l e = ap (λ (r : List ℕ). get_or (map (member (switch_places hs)) r) 0 0) e

    -- its first member is the one that opens it
    pub opener_is : get_or (places_of hs i) 0 0 ≡ member (switch_places hs) i
    unfolding member_places members_of
    opener_is = first_is (members_of hs (switch_places hs) i) (opener_first hs (switch_places hs) i (length (switch_places hs)) o.0 o.1)

    pub members_are_at : members (group_of hs i) ≡ map (switch_there hs) (places_of hs i)
    members_are_at = members_by_place hs (switch_places hs) i o.0 o.1

    pub members_count : length (members (group_of hs i)) ≡ length (places_of hs i)
    members_count = ap length members_are_at ∙ length-map (places_of hs i) (switch_there hs)

    -- as many columns as arms
    pub columns_count : length (group_columns (group_of hs i)) ≡ arm_count hs (get_or (places_of hs i) 0 0)
    unfolding group_columns
    columns_count =
        length_columns (length (group_of hs i).first.arms) (arms_of_members (members (group_of hs i)))
        ∙ (first_arms_are hs (switch_places hs) i ∙ ap (arm_count hs) (sym opener_is))

    -- each is the trees of its words
    module _ (m : ℕ) (complete : trees_in hs ≡ some m) (a : ℕ) (h : a < arm_count hs (get_or (places_of hs i) 0 0)) where
      within : a < arm_count hs (member (switch_places hs) i)
      within = let e = ap (arm_count hs) opener_is in omega arith

      pub column_is : get_or (group_columns (group_of hs i)) a [] ≡ read numbered (column_words hs (places_of hs i) a)
      unfolding group_columns
      column_is = sym (group_column_read hs m complete i o.0 o.1 a within)

      pub column_complete : trees_in (column_words hs (places_of hs i) a) ≡ some (length (places_of hs i))
      column_complete = group_column_complete hs m complete i o.0 o.1 a within

      pub column_count : length (read numbered (column_words hs (places_of hs i) a)) ≡ length (places_of hs i)
      column_count = complete_length numbered (column_words hs (places_of hs i) a) (length (places_of hs i)) column_complete
