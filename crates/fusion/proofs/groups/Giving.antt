-- What `group_switches` answers and leaves in each case. Assumes nothing.
use Prim.Native.Nat.{ℕ, ◌≤◌, ◌<◌}
use mathlib.Core.Path.{◌≡◌, refl, sym, ◌∙◌, ap}
use mathlib.Core.Bool.{Bool, true, false, ◌&&◌}
use mathlib.Core.Option.{Option, none}
use mathlib.Core.List.{List, ◌++◌}
use borrow.Author.Tests.{le-leb, lt-leb}
use lib.ListN.{length, drop}
use lib.Dec.{leb}
use Rattle.spec_tree.specs.Tokens.{trees_in}
use Rattle.words.specs.words.Words.{some_trees, Complete}
use Rattle.fusion.specs.place.Parts.{joined_groups, ends_from}
use Rattle.fusion.specs.groups.Answers.{groups_at, all_stand, GroupsWritten, GroupsTold, groups_by, room_for, groups_answer}
use Rattle.std.specs.Prelude.{Result, Ok, Err}
use Rattle.words.specs.declared.fault.Fault.{Fault}
use Rattle.words.specs.declared.fault.Fault.TheVariants as fault
use Rattle.spec_tree.proofs.Logic.{and_false}

module _ (ws ps members ends : List ℕ) where
  abbrev pub Answers : Result ℕ Fault → List ℕ → List ℕ → Type 0
  Answers r members_left ends_left =
      (r ≡ (groups_answer ws ps members ends).answer)
      × (members_left ≡ (groups_answer ws ps members ends).members)
      × (ends_left ≡ (groups_answer ws ps members ends).ends)

  abbrev good : Bool
  good = some_trees (trees_in ws) && all_stand ws ps

  abbrev room : Bool
  room = room_for (length ps) (length members) (length ends)

  answers_by : (a b : Bool) → good ≡ a → room ≡ b → (x : GroupsTold) → groups_by a b (groups_at ws ps) members ends ≡ x → Answers x.answer x.members x.ends
  unfolding groups_answer
  answers_by a b e f x q =
      let s : groups_answer ws ps members ends ≡ x =
      ap (λ (y : Bool). groups_by y room (groups_at ws ps) members ends) e ∙ (ap (λ (y : Bool). groups_by a y (groups_at ws ps) members ends) f ∙ q) in
      (sym (ap (λ (y : GroupsTold). y.answer) s), sym (ap (λ (y : GroupsTold). y.members) s), sym (ap (λ (y : GroupsTold). y.ends) s))

  broken : good ≡ false → Answers (Err fault.Broken) members ends
  unfolding groups_by
  broken e = answers_by false room e refl (record { answer = (Err fault.Broken); members = members; ends = ends }) refl

  pub no_trees : trees_in ws ≡ none → Answers (Err fault.Broken) members ends
  unfolding some_trees
  no_trees e = broken (ap (λ (o : Option ℕ). some_trees o && all_stand ws ps) e)

  module _ (complete : Complete ws) where
    good_by : (b : Bool) → b ≡ all_stand ws ps → good ≡ b
    unfolding some_trees
    good_by b e = ap (λ (o : Option ℕ). some_trees o && all_stand ws ps) complete.1 ∙ sym e

    pub no_switch : false ≡ all_stand ws ps → Answers (Err fault.Broken) members ends
    no_switch e = broken (good_by false e)

    module _ (stand : true ≡ all_stand ws ps) where
      full : room ≡ false → Answers (Err fault.NoRoom) members ends
      unfolding groups_by
      full e = answers_by true false (good_by true stand) e (record { answer = (Err fault.NoRoom); members = members; ends = ends }) refl

      pub few_members : length members < length ps → Answers (Err fault.NoRoom) members ends
      unfolding room_for
      few_members h = full (ap (λ (b : Bool). b && leb (length ps) (length ends)) (lt-leb (length ps) (length members) h))

      pub few_ends : length ends < length ps → Answers (Err fault.NoRoom) members ends
      unfolding room_for
      few_ends h = full (ap (λ (b : Bool). leb (length ps) (length members) && b) (lt-leb (length ps) (length ends) h) ∙ and_false (leb (length ps) (length members)))

      pub grouped :
          length ps ≤ length members → length ps ≤ length ends → (n : ℕ) (members_left ends_left : List ℕ)
          → GroupsWritten (groups_at ws ps) members ends n members_left ends_left → Answers (Ok n) members_left ends_left
      unfolding groups_by room_for
      grouped g h n members_left ends_left w =
          let there : room ≡ true = rw (le-leb (length ps) (length members) g, le-leb (length ps) (length ends) h) in
          let gs = groups_at ws ps in
          let ms = joined_groups gs ++ drop (length (joined_groups gs)) members in
          let es = ends_from 0 gs ++ drop (length (ends_from 0 gs)) ends in
          answers_by true true (good_by true stand) there (record { answer = Ok n; members = members_left; ends = ends_left })
          (ap (λ (i : ℕ). record { answer = Ok i; members = ms; ends = es }) (sym w.count)
          ∙ (ap (λ (l : List ℕ). record { answer = Ok n; members = l; ends = es }) (sym w.members_are)
          ∙ ap (λ (l : List ℕ). record { answer = Ok n; members = members_left; ends = l }) (sym w.ends_are)))
