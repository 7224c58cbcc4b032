-- What `group_switches` tells those who ask for switches of trees with room enough, and that the switches outside arms are ones to ask for. Assumes nothing.
use Prim.Native.Nat.{ℕ, ◌≤◌}
use native.Mathlib.Omega.{arith}
use mathlib.Core.Path.{◌≡◌, refl, ◌∙◌, ap}
use mathlib.Core.Bool.{Bool, true, ◌&&◌}
use mathlib.Core.Option.{Option}
use mathlib.Core.List.{List, [], ◌∷◌, ◌++◌}
use borrow.Author.Tests.{le-leb}
use lib.ListN.{length, drop, length-map}
use lib.Dec.{T, ltb, lt→ltb}
use Rattle.spec_tree.specs.Bytes.{every}
use Rattle.spec_tree.proofs.Logic.{and_both}
use Rattle.spec_tree.proofs.Tests.{is_true}
use Rattle.words.specs.words.Words.{some_trees, Complete}
use Rattle.laws.proofs.positions.Extraction.{Every}
use Rattle.laws.specs.switches.Switches.{switch_at, switch_places}
use Rattle.laws.specs.switches.Groups.{firsts_within, group_numbers, member_places}
use Rattle.laws.proofs.switches.Collected.{Switching, places_switch}
use Rattle.fusion.specs.place.Parts.{place_groups, joined_groups, ends_from}
use Rattle.fusion.specs.groups.Answers.{groups_at, switch_stands, all_stand, GroupsWritten, GroupsTold, groups_by, room_for, groups_answer}
use Rattle.std.specs.Prelude.{Ok, Err}
use Rattle.words.specs.declared.fault.Fault.TheVariants as fault
use Rattle.fusion.proofs.groups.Fewer.{members_fewer, groups_fewer}

-- ---- the switches outside arms

pub are_place_groups : (ws : List ℕ) → groups_at ws (switch_places ws) ≡ place_groups ws
unfolding groups_at place_groups
are_place_groups ws = refl

every_stands : (ws l : List ℕ) → Every (Switching ws) l → T (every (switch_stands ws) l)
unfolding every switch_stands
every_stands ws [] h = tt
every_stands ws (p ∷ l) h =
    and_both (switch_stands ws p) (every (switch_stands ws) l) (and_both (ltb p (length ws)) (switch_at ws p) (lt→ltb p (length ws) h.0.0) h.0.1)
    (every_stands ws l h.1)

pub places_stand : (ws : List ℕ) → T (all_stand ws (switch_places ws))
unfolding all_stand
places_stand ws = every_stands ws (switch_places ws) (places_switch ws)

-- ---- no more groups and no more members than places

module _ (ws ps : List ℕ) where
  pub groups_few : length (groups_at ws ps) ≤ length ps
  unfolding groups_at group_numbers
  groups_few = omega (arith, length-map (firsts_within ws ps (length ps)) (member_places ws ps), groups_fewer ws ps (length ps))

  pub members_few : length (joined_groups (groups_at ws ps)) ≤ length ps
  unfolding groups_at group_numbers
  members_few = members_fewer ws ps (length ps)

-- ---- the answer

module _ (ws ps members ends : List ℕ) (complete : Complete ws) (stand : T (all_stand ws ps)) (g : length ps ≤ length members) (h : length ps ≤ length ends) where
  abbrev gs : List (List ℕ)
  gs = groups_at ws ps

  answer_is :
      groups_answer ws ps members ends
      ≡ record {
        answer = Ok (length (groups_at ws ps));
        members = joined_groups (groups_at ws ps) ++ drop (length (joined_groups (groups_at ws ps))) members;
        ends = ends_from 0 (groups_at ws ps) ++ drop (length (ends_from 0 (groups_at ws ps))) ends;
      }
  unfolding groups_answer groups_by some_trees room_for
  answer_is =
      let room = room_for (length ps) (length members) (length ends) in
      let there : room ≡ true = rw (le-leb (length ps) (length members) g, le-leb (length ps) (length ends) h) in
      ap (λ (o : Option ℕ). groups_by (some_trees o && all_stand ws ps) room gs members ends) complete.1
      ∙ (ap (λ (b : Bool). groups_by b room gs members ends) (is_true (all_stand ws ps) stand)
      ∙ ap (λ (b : Bool). groups_by true b gs members ends) there)

  pub groups_all :
      (n : ℕ) (members_left ends_left : List ℕ) → Ok n ≡ (groups_answer ws ps members ends).answer
      → members_left ≡ (groups_answer ws ps members ends).members → ends_left ≡ (groups_answer ws ps members ends).ends
      → GroupsWritten (groups_at ws ps) members ends n members_left ends_left
  groups_all n members_left ends_left e f d =
      let q : Ok n ≡ Ok (length (groups_at ws ps)) = e ∙ ap (λ (x : GroupsTold). x.answer) answer_is in
      let c : n ≡ length (groups_at ws ps) = cc in
      record { count = c; members_are = f ∙ ap (λ (x : GroupsTold). x.members) answer_is; ends_are = d ∙ ap (λ (x : GroupsTold). x.ends) answer_is }

  pub not_broken : (Err fault.Broken) ≡ (groups_answer ws ps members ends).answer → ⊥
  not_broken e =
      let q : (Err fault.Broken) ≡ Ok (length (groups_at ws ps)) = e ∙ ap (λ (x : GroupsTold). x.answer) answer_is in
      let z : ◌≡◌ {A = ℕ} 0 1 = cc in
      omega arith

  pub not_full : (Err fault.NoRoom) ≡ (groups_answer ws ps members ends).answer → ⊥
  not_full e =
      let q : (Err fault.NoRoom) ≡ Ok (length (groups_at ws ps)) = e ∙ ap (λ (x : GroupsTold). x.answer) answer_is in
      let z : ◌≡◌ {A = ℕ} 0 1 = cc in
      omega arith
