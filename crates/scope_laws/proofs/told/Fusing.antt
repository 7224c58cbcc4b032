-- A scope after its rounds, on words and by trees (01, "Reciprocals", "Scoped fusion", "Order"), if each arm's scope is the same on words as by trees. Assumes
-- nothing.
use Prim.Native.Nat.{ℕ, ◌+◌, ◌-◌, ◌≤◌, ◌<◌}
use native.Mathlib.Omega.{arith}
use mathlib.Core.Path.{◌≡◌, refl, sym, ◌∙◌, ap, ap₂, subst}
use mathlib.Core.Bool.{Bool, true, false, ◌&&◌, cond}
use mathlib.Core.Option.{some}
use mathlib.Core.List.{List, map, reverse}
use lib.ListN.{length, get_or, drop, length-map}
use lib.Dec.{T, leb}
use Rattle.spec_tree.specs.Outcome.{Outcome, ok, refused, by, ◌>>=◌}
use Rattle.spec_tree.specs.Tree.{Tree}
use Rattle.spec_tree.specs.Rows.{occurrences}
use Rattle.spec_tree.specs.Tokens.{read, numbered, trees_in}
use Rattle.spec_cse.specs.AnswerRows.{value_row}
use Rattle.spec_cse.specs.Extract.{State, roots}
use Rattle.spec_cse.specs.Order.{needs, positions_taken}
use Rattle.spec_cse.specs.Scope.{Group, Scoped, collect_switches, finish, fuse_all, held, left_after, most_switches, statements, most_stmts, has_room, fuse_held}
use Rattle.laws.proofs.cse.Outcomes.{Good, good_at}
use Rattle.laws.specs.positions.Places.{numbered_at}
use Rattle.laws.specs.positions.Rounds.{next_number, state_of, bind_each_on}
use Rattle.laws.proofs.positions.Extraction.{Every}
use Rattle.laws.proofs.positions.RoundsOn.{roots_of_state}
use Rattle.laws.proofs.positions.WordRounds.{InCode}
use Rattle.reciprocals.proofs.bindings.Parts.{bound_are_settled}
use Rattle.laws.specs.switches.Switches.{arm_count, switch_places, switch_there}
use Rattle.laws.specs.switches.Columns.{column_words}
use Rattle.fusion.specs.Settled.{Walked, numbered_groups}
use Rattle.fusion.specs.Words.{all_numbers}
use Rattle.fusion.specs.Whole.{settled_roots, scope_groups, scope_stmts, scope_work, settled_scope}
use Rattle.fusion.proofs.Grouping.{groups_kept}
use Rattle.fusion.proofs.Whole.{scope_is, statements_are}
use Rattle.fusion.specs.place.Parts.{place_groups, trees_held, words_held, reciprocals_first, lets_count, held_words}
use Rattle.fusion.specs.place.Whole.{Told, Walk, walked, stmts_order, ordered_scope, room_for, fused_scope}
use Rattle.scope_laws.specs.told.Told.{told}
use Rattle.scope_laws.proofs.told.Holding.{held_complete, held_length, held_are}
use Rattle.scope_laws.proofs.told.Groups.{group_of, places_of, numbers_of, OpensGroup, scope_switches_are, scope_groups_are, groups_count}
use Rattle.scope_laws.proofs.told.Walking.{Proper, told_groups, walked_is}
use Rattle.scope_laws.proofs.told.Matches.{its_group, ArmedWell, groups_armed}
use Rattle.scope_laws.proofs.told.Ordering.{ordered_is}
use Rattle.spec_tree.proofs.Outcomes.{then_then, then_known}

module _ (scope : ℕ → List Tree → Outcome Scoped) (proper : (n : ℕ) (es : List Tree) → Good (Proper n es) (scope n es)) (by_words : ℕ → List ℕ → Outcome Told)
    (left : ℕ) (vs : List ℕ) (k first : ℕ) (places : List ℕ) (within : k ≤ length (read numbered vs))
    (fit : InCode (settled_roots (map (numbered_at vs) places) (next_number k first (read numbered vs)) (read numbered vs))) where
  abbrev ts : List Tree
  ts = read numbered vs

  abbrev ds : List Tree
  ds = map (numbered_at vs) places

  abbrev n : ℕ
  n = next_number k first ts

  abbrev hs : List ℕ
  hs = held_words vs k first places

  -- the number that the first group starts with
  abbrev start : ℕ
  start = reciprocals_first vs k first places + length places

  abbrev state : State
  state = state_of k first (bind_each_on ds n ts)

  first_is : reciprocals_first vs k first places ≡ n
  unfolding reciprocals_first
  first_is = refl

  hs_are : hs ≡ words_held vs n places
  unfolding held_words reciprocals_first
  hs_are = refl

  start_is : start ≡ n + length ds
  start_is = ap₂ ◌+◌ first_is (sym (length-map places (numbered_at vs)))

  complete : trees_in hs ≡ some (length (trees_held vs n places))
  complete = ap trees_in hs_are ∙ held_complete vs n places fit

  groups_are : scope_groups ds n ts ≡ map (group_of hs) (numbers_of hs)
  groups_are = scope_groups_are vs n places fit ∙ ap (λ (l : List ℕ). map (group_of l) (numbers_of l)) (sym hs_are)

  -- as many words as the scope holds occurrences
  pub held_many :
      length (held_words vs k first places)
      ≡ occurrences
      (held (length (drop k (read numbered vs))) (state_of k first (bind_each_on (map (numbered_at vs) places) (next_number k first (read numbered vs)) (read numbered vs))))
  held_many = ap length hs_are ∙ (held_length vs n places fit ∙ ap occurrences (sym (held_are vs k first n places within)))

  -- so that its arms have as many rows
  pub left_is :
      left - length (held_words vs k first places)
      ≡ left_after left (length (drop k (read numbered vs)))
      (state_of k first (bind_each_on (map (numbered_at vs) places) (next_number k first (read numbered vs)) (read numbered vs)))
  unfolding left_after
  left_is = ap (λ (m : ℕ). left - m) held_many

  -- as many switches
  switches_many : length (switch_places hs) ≡ length (collect_switches (roots state))
  switches_many =
      let own = words_held vs n places in
      ap (λ (l : List ℕ). length (switch_places l)) hs_are
      ∙ (sym (length-map (switch_places own) (switch_there own))
      ∙ (ap length (sym (scope_switches_are vs n places fit)) ∙ ap (λ (l : List Tree). length (collect_switches l)) (sym roots_are)))
    where
      roots_are : roots state ≡ settled_roots ds n ts
      roots_are = roots_of_state k first (bind_each_on ds n ts) ∙ (unfold settled_roots in bound_are_settled ds n ts)

  -- as many statements
  stmts_many : lets_count vs k first places + length (place_groups hs) ≡ statements state
  unfolding lets_count
  stmts_many =
      let a = length-map places (numbered_at vs) in
      let b = groups_count hs in
      let c = ap length groups_are in
      let d = length-map (numbers_of hs) (group_of hs) in
      let e = statements_are k first ts ds within in
      omega (arith, a, b, c, d, e)

  pub room_is :
      room_for left vs k first places
      ≡ has_room left (length (drop k (read numbered vs))) (state_of k first (bind_each_on (map (numbered_at vs) places) (next_number k first (read numbered vs)) (read numbered vs)))
  unfolding room_for has_room most_switches most_stmts
  room_is =
      ap (λ (m : ℕ). leb m left && (leb (length (switch_places hs)) 3640 && leb (lets_count vs k first places + length (place_groups hs)) 2048)) held_many
      ∙ ap₂ (λ (m n : ℕ). leb (occurrences (held (length (drop k ts)) state)) left && (leb m 3640 && leb n 2048)) switches_many stmts_many

  module _
      (inner : T (room_for left vs k first places) → (n i a : ℕ) → reciprocals_first vs k first places + length places ≤ n → OpensGroup (held_words vs k first places) i
      → a < arm_count (held_words vs k first places) (get_or (places_of (held_words vs k first places) i) 0 0)
      → by_words n (column_words (held_words vs k first places) (places_of (held_words vs k first places) i) a)
      ≡ (scope n (read numbered (column_words (held_words vs k first places) (places_of (held_words vs k first places) i) a)) >>= λ s. ok (told value_row s)))
      (ordering : T (room_for left vs k first places) → (l : Walked)
      → numbered_groups scope (reciprocals_first vs k first places + length places)
      (scope_groups (map (numbered_at vs) places) (next_number k first (read numbered vs)) (read numbered vs))
      ≡ ok l
      → stmts_order vs k first places (all_numbers l.groups)
      ≡ reverse
      (positions_taken (needs (scope_stmts k first (read numbered vs) (map (numbered_at vs) places) l.groups) (scope_stmts k first (read numbered vs) (map (numbered_at vs) places) l.groups))))
      (row : ℕ)
    where
      abbrev made : ℕ
      made = length (drop k ts)

      walk : T (room_for left vs k first places)
          → (walked by_words hs (place_groups hs) start (length (place_groups hs)) >>= λ l. ordered_scope row vs k first places l)
          ≡ (settled_scope scope made k first ts ds >>= λ a. ok (told row a))
      unfolding settled_scope
      walk b =
          let o = numbered_groups scope start (scope_groups ds n ts) in
          let end : Walked → Outcome Scoped = λ l. finish (scope_work made k first ts ds l) in
          ap (λ (x : Outcome Walk). x >>= λ l. ordered_scope row vs k first places l)
          (walked_is scope proper by_words hs (length (trees_held vs n places)) complete start (inner b)
          ∙ ap (λ (gs : List Group). numbered_groups scope start gs >>= λ l. ok (told_groups l)) (sym groups_are))
          ∙ (then_then o (λ l. ok (told_groups l)) (λ l. ordered_scope row vs k first places l)
          ∙ (then_known o (λ l. ordered_scope row vs k first places (told_groups l)) (λ l. end l >>= λ a. ok (told row a)) (λ l e. last l e)
          ∙ (sym (then_then o end (λ a. ok (told row a)))
          ∙ ap (λ (s : ℕ). (numbered_groups scope s (scope_groups ds n ts) >>= end) >>= λ a. ok (told row a)) start_is)))
        where
          last : (l : Walked) → numbered_groups scope start (scope_groups ds n ts) ≡ ok l
              → ordered_scope row vs k first places (told_groups l) ≡ (finish (scope_work made k first ts ds l) >>= λ a. ok (told row a))
          last l e =
              ordered_is vs k first places within l
              (good_at (λ (l : Walked). map its_group l.groups ≡ scope_groups ds n ts) (numbered_groups scope start (scope_groups ds n ts)) l e
              (groups_kept scope start (scope_groups ds n ts)) ∙ groups_are)
              (good_at (λ (l : Walked). Every ArmedWell l.groups) (numbered_groups scope start (scope_groups ds n ts)) l e (groups_armed scope start (scope_groups ds n ts))) row (ordering b l e)

      pub fused_is :
          fused_scope by_words left row vs k first places
          ≡ (fuse_held scope left (length (drop k (read numbered vs)))
          (state_of k first (bind_each_on (map (numbered_at vs) places) (next_number k first (read numbered vs)) (read numbered vs))) >>= λ a. ok (told row a))
      unfolding fused_scope fuse_held
      fused_is =
          go (room_for left vs k first places) refl
          ∙ ap
          (λ (b : Bool).
          (elim b as (λ _. Outcome Scoped) [ true ↦ (fuse_all scope made state >>= λ w. finish w) | false ↦ refused (by 23) ]) >>= λ a. ok (told row a)) room_is
        where
          go : (b : Bool) → room_for left vs k first places ≡ b
              → cond b (walked by_words hs (place_groups hs) start (length (place_groups hs)) >>= λ l. ordered_scope row vs k first places l) (refused (by 23))
              ≡ ((elim b as (λ _. Outcome Scoped) [ true ↦ (fuse_all scope made state >>= λ w. finish w) | false ↦ refused (by 23) ]) >>= λ a. ok (told row a))
          go true e =
              walk (subst T (sym e) tt) ∙ ap (λ (o : Outcome Scoped). o >>= λ a. ok (told row a)) (sym (scope_is k first ts ds within scope made))
          go false e = refl
