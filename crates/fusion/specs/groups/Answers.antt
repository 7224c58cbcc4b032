-- The groups of switches at some places, and what `group_switches` answers and leaves, by cases (01, "Scoped fusion"). Assumes nothing.
use Rattle.std.specs.Prelude.{ℕ, ◌≡◌, Bool, true, false, ◌&&◌, List, ◌++◌, map, length, drop, leb, ltb, Result, Ok, Err}
use Rattle.spec_tree.specs.Bytes.{every}
use Rattle.spec_tree.specs.Tokens.{trees_in}
use Rattle.words.specs.words.Words.{some_trees}
use Rattle.laws.specs.switches.Switches.{switch_at}
use Rattle.laws.specs.switches.Groups.{group_numbers, member_places}
use Rattle.fusion.specs.place.Parts.{joined_groups, ends_from}
use Rattle.words.specs.declared.fault.Fault.{Fault}
use Rattle.words.specs.declared.fault.Fault.TheVariants as fault

-- the groups of the switches at some places, each as the places of its members
unfoldable pub groups_at : List ℕ → List ℕ → List (List ℕ)
unfolding member_places group_numbers
groups_at ws ps = map (member_places ws ps) (group_numbers ws ps)

-- whether a switch is at a place, and at each of some
unfoldable pub switch_stands : List ℕ → ℕ → Bool
unfolding switch_at
switch_stands ws p = ltb p (length ws) && switch_at ws p

unfoldable pub all_stand : List ℕ → List ℕ → Bool
unfolding every switch_stands
all_stand ws ps = every (switch_stands ws) ps

-- words stand in front, n of them, and everything after is as it was
pub record Front (new old : List ℕ) (n : ℕ) (out : List ℕ) : Type 0 where
  pub count : n ≡ length new
  pub words : out ≡ new ++ drop (length new) old

-- groups stand in front: how many, their members one after another, and where each ends
pub record GroupsWritten (gs : List (List ℕ)) (members ends : List ℕ) (n : ℕ) (members_left ends_left : List ℕ) : Type 0 where
  pub count : n ≡ length gs
  pub members_are : members_left ≡ joined_groups gs ++ drop (length (joined_groups gs)) members
  pub ends_are : ends_left ≡ ends_from 0 gs ++ drop (length (ends_from 0 gs)) ends

-- the answer, and what is lent after it
pub record GroupsTold : Type 0 where
  pub answer : Result ℕ Fault
  pub members : List ℕ
  pub ends : List ℕ

-- by whether the trees and the switches are there, and whether there is room: members and ends in front of what stood after as many, or nothing written
unfoldable pub groups_by : Bool → Bool → List (List ℕ) → List ℕ → List ℕ → GroupsTold
unfolding joined_groups ends_from
groups_by false room gs members ends = record { answer = Err fault.Broken; members = members; ends = ends }
groups_by true false gs members ends = record { answer = Err fault.NoRoom; members = members; ends = ends }
groups_by true true gs members ends =
    record {
      answer = Ok (length gs);
      members = joined_groups gs ++ drop (length (joined_groups gs)) members;
      ends = ends_from 0 gs ++ drop (length (ends_from 0 gs)) ends;
    }

-- a member and an end for each place
unfoldable pub room_for : ℕ → ℕ → ℕ → Bool
room_for places members ends = leb places members && leb places ends

unfoldable pub groups_answer : List ℕ → List ℕ → List ℕ → List ℕ → GroupsTold
unfolding groups_by trees_in some_trees all_stand room_for groups_at
groups_answer ws ps members ends =
    groups_by (some_trees (trees_in ws) && all_stand ws ps) (room_for (length ps) (length members) (length ends)) (groups_at ws ps) members ends
