-- The columns of each group of the switches of words, as words (specs, Groups, Columns): complete, and together no longer than the words, since switches
-- outside arms have their arms in separate places. Assumes nothing.
use Prim.Native.Nat.{ℕ, zero, suc, ◌≤◌, ◌<◌}
use native.Mathlib.Omega.{arith}
use mathlib.Core.Path.{◌≡◌, refl, sym, ◌∙◌, ap, ap₂, subst}
use mathlib.Core.Bool.{Bool, true, false}
use mathlib.Core.Option.{some}
use mathlib.Core.List.{List, [], ◌∷◌, ◌++◌, map}
use borrow.Author.Tests.{eqb-true}
use lib.ListN.{length, get_or, drop, drop_of_length-le}
use lib.Seq.{drop-cons}
use lib.Dec.{T, eqb}
use Rattle.spec_tree.specs.Tree.{Tree}
use Rattle.spec_tree.specs.Facts.{total}
use Rattle.spec_tree.specs.Rows.{occurrences}
use Rattle.spec_tree.specs.Tokens.{all_tokens, read, numbered, trees_in}
use Rattle.spec_tree.proofs.TokenLaws.{sizes, map_append, read_size}
use Rattle.spec_tree.proofs.TokenCode.{unnumbered, all_tokens_length}
use Rattle.spec_rewrite.proofs.Measure.{sum_of}
use Rattle.spec_cse.specs.Scope.{Switch, Group, members, columns, arms_of_members}
use Rattle.laws.proofs.cse.ReciprocalsCount.{AllTrees}
use Rattle.laws.proofs.cse.ArmNodes.{arm_nodes, arm_nodes_size, arms_total, AllArms, SmallGroups, collected_small, Columns, group_columns}
use Rattle.laws.proofs.cse.SwitchLaws.{length_columns}
use Rattle.laws.proofs.positions.Extraction.{Every, every_append}
use Rattle.laws.specs.switches.Switches.{arm_count, switch_places, switch_there}
use Rattle.laws.specs.switches.Groups.{joins_at, member, group_first, firsts_within, group_numbers, members_within, members_of, member_places, member_switch, group_there}
use Rattle.laws.specs.switches.Columns.{column_words}
use Rattle.laws.proofs.switches.Collected.{Switching, places_switch}
use Rattle.laws.proofs.switches.Joining.{arms_counted, joined_so, first_joins}
use Rattle.laws.proofs.switches.Grouped.{splits, members_there, collected_groups}
use Rattle.laws.proofs.switches.Turned.{Armed, column_written, column_complete, column_read}

-- ---- the members of a group are switches with one number of arms

pub every_at : {A : Type 0} (P : A → Type 0) (d : A) (l : List A) → Every P l → (j : ℕ) → j < length l → P (get_or l j d)
every_at P d [] h j k = absurd (omega arith)
every_at P d (a ∷ l) h zero k = h.0
every_at P d (a ∷ l) h (suc j) k = every_at P d l h.1 j (omega arith)

module _ (ws ps : List ℕ) where
  -- a member of the group that i opens
  abbrev pub Member : ℕ → ℕ → ℕ → Type 0
  Member i n j = (j < n) × (group_first ws ps j ≡ i)

  member_step : (i n : ℕ) (b : Bool) → (b ≡ true → group_first ws ps n ≡ i) → Every (Member i (suc n)) (elim b [ true ↦ n ∷ [] | false ↦ [] ])
  member_step i n true h = ((omega arith, h refl), tt)
  member_step i n false h = tt

  more_room : (i n : ℕ) (l : List ℕ) → Every (Member i n) l → Every (Member i (suc n)) l
  more_room i n [] h = tt
  more_room i n (j ∷ l) h = ((let k = h.0.0 in omega arith, h.0.1), more_room i n l h.1)

  members_within_are : (i n : ℕ) → Every (Member i n) (members_within ws ps i n)
  unfolding members_within
  members_within_are i zero = tt
  members_within_are i (suc n) =
      every_append (Member i (suc n)) (members_within ws ps i n) (elim (eqb (group_first ws ps n) i) [ true ↦ n ∷ [] | false ↦ [] ])
      (more_room i n (members_within ws ps i n) (members_within_are i n))
      (member_step i n (eqb (group_first ws ps n) i) (λ e. eqb-true (group_first ws ps n) i e))

  pub members_are : (i : ℕ) → Every (Member i (length ps)) (members_of ws ps i)
  unfolding members_of
  members_are i = members_within_are i (length ps)

  member_armed : Every (Switching ws) ps → (i j : ℕ) → Member i (length ps) j → Armed ws (arm_count ws (member ps i)) (member ps j)
  unfolding member
  member_armed s i j h =
      let t = subst (λ (k : ℕ). T (joins_at ws (get_or ps k 0) (get_or ps j 0))) h.1 (first_joins_at j) in
      (every_at (Switching ws) 0 ps s j h.0, sym (joined_so ws (get_or ps i 0) (get_or ps j 0) t).count)
    where
      first_joins_at : (j : ℕ) → T (joins_at ws (get_or ps (group_first ws ps j) 0) (get_or ps j 0))
      first_joins_at j = first_joins ws ps j

  armed_all : Every (Switching ws) ps → (i : ℕ) (l : List ℕ) → Every (Member i (length ps)) l → Every (Armed ws (arm_count ws (member ps i))) (map (member ps) l)
  armed_all s i [] h = tt
  armed_all s i (j ∷ l) h = (member_armed s i j h.0, armed_all s i l h.1)

  pub members_armed : Every (Switching ws) ps → (i : ℕ) → Every (Armed ws (arm_count ws (member ps i))) (member_places ws ps i)
  unfolding member_places
  members_armed s i = armed_all s i (members_of ws ps i) (members_are i)

  -- the switches at the places of the members
  switches_of : (l : List ℕ) → map (switch_there ws) (map (member ps) l) ≡ map (member_switch ws ps) l
  unfolding member_switch
  switches_of [] = refl
  switches_of (j ∷ l) = ap (λ (r : List Switch). switch_there ws (member ps j) ∷ r) (switches_of l)

  pub members_by_place : (i : ℕ) → i < length ps → group_first ws ps i ≡ i → members (group_there ws ps i) ≡ map (switch_there ws) (member_places ws ps i)
  unfolding member_places
  members_by_place i h o = members_there ws ps i h o ∙ sym (switches_of (members_of ws ps i))

  pub first_arms_are : (i : ℕ) → length (group_there ws ps i).first.arms ≡ arm_count ws (member ps i)
  unfolding group_there member_switch switch_there
  first_arms_are i = arms_counted ws (member ps i)

-- ---- bounds

pub sizes_are : (l : List Tree) → sum_of arm_nodes l ≤ sizes l
unfolding sum_of sizes total
sizes_are [] = omega arith
sizes_are (t ∷ l) = (let a = arm_nodes_size t in let b = sizes_are l in omega arith)

abbrev Any : Tree → Type 0
Any t = Unit {0}

any_trees : (l : List Tree) → AllTrees Any l
any_trees [] = tt
any_trees (t ∷ l) = (tt, any_trees l)

any_arms : (l : List Switch) → AllArms Any l
any_arms [] = tt
any_arms (s ∷ l) = (any_trees s.arms, any_arms l)

small_at : (N : ℕ) (a b : List Group) (g : Group) → SmallGroups N (a ++ (g ∷ b)) → arms_total (members g) ≤ N
small_at N [] b g h = h.0
small_at N (f ∷ a) b g h = small_at N a b g h.1

none_there : occurrences [] ≡ 0
unfolding occurrences
none_there = refl

short_at : (N a : ℕ) (ls : List (List Tree)) → Columns Any N ls → occurrences (get_or ls a []) ≤ N
short_at N a [] h = (let z = none_there in omega arith)
short_at N zero (l ∷ ls) h = h.0.1
short_at N (suc a) (l ∷ ls) h = short_at N a ls h.1

-- ---- of the switches of words

module _ (ws : List ℕ) (m : ℕ) (complete : trees_in ws ≡ some m) where
  abbrev ps : List ℕ
  ps = switch_places ws

  small : SmallGroups (length ws) (map (group_there ws (switch_places ws)) (group_numbers ws (switch_places ws)))
  small =
      subst (SmallGroups (length ws)) (collected_groups ws m complete)
      (collected_small (length ws) (read numbered ws) (let a = sizes_are (read numbered ws) in let b = read_size numbered ws in omega arith))

  module _ (i : ℕ) (h : i < length (switch_places ws)) (o : group_first ws (switch_places ws) i ≡ i) where
    abbrev group : Group
    group = group_there ws (switch_places ws) i

    abbrev places : List ℕ
    places = member_places ws (switch_places ws) i

    abbrev arms : ℕ
    arms = arm_count ws (member (switch_places ws) i)

    -- all arms of a group's members
    pub group_small : arms_total (members (group_there ws (switch_places ws) i)) ≤ length ws
    unfolding group_numbers
    group_small =
        let s = splits ws ps i (length ps) h o in
        let G = group_there ws ps in
        let e : map G (firsts_within ws ps (length ps)) ≡ map G (firsts_within ws ps i) ++ (G i ∷ map G s.after) =
        ap (map G) s.are ∙ map_append G (firsts_within ws ps i) (i ∷ s.after) in
        small_at (length ws) (map G (firsts_within ws ps i)) (map G s.after) (G i) (subst (SmallGroups (length ws)) e small)

    same_columns : columns (length group.first.arms) (arms_of_members (members group)) ≡ columns arms (arms_of_members (map (switch_there ws) places))
    same_columns = ap₂ (λ (n : ℕ) (l : List Switch). columns n (arms_of_members l)) (first_arms_are ws ps i) (members_by_place ws ps i h o)

    armed : Every (Armed ws arms) places
    armed = members_armed ws ps (places_switch ws) i

    module _ (a : ℕ) (l : a < arm_count ws (member (switch_places ws) i)) where
      -- the words of a group's column
      pub group_column_written :
          column_words ws (member_places ws (switch_places ws) i) a
          ≡ all_tokens unnumbered
          (get_or
          (columns (length (group_there ws (switch_places ws) i).first.arms) (arms_of_members (members (group_there ws (switch_places ws) i)))) a [])
      group_column_written =
          column_written ws m complete arms a places armed l ∙ ap (λ (ls : List (List Tree)). all_tokens unnumbered (get_or ls a [])) (sym same_columns)

      pub group_column_complete : trees_in (column_words ws (member_places ws (switch_places ws) i) a) ≡ some (length (member_places ws (switch_places ws) i))
      group_column_complete = column_complete ws m complete arms a places armed l

      pub group_column_read :
          read numbered (column_words ws (member_places ws (switch_places ws) i) a)
          ≡ get_or (columns (length (group_there ws (switch_places ws) i).first.arms) (arms_of_members (members (group_there ws (switch_places ws) i)))) a []
      group_column_read = column_read ws m complete arms a places armed l ∙ ap (λ (ls : List (List Tree)). get_or ls a []) (sym same_columns)

      -- one arm of each member
      pub group_column_short : length (column_words ws (member_places ws (switch_places ws) i) a) ≤ length ws
      group_column_short =
          let all = columns (length group.first.arms) (arms_of_members (members group)) in
          let e = ap length group_column_written ∙ all_tokens_length unnumbered (get_or all a []) in
          let s = short_at (length ws) a all (group_columns Any (length ws) group (any_arms (members group)) group_small) in
          omega (arith, e, s)

      -- the columns from number a on: this one, and those after it
      pub group_columns_next :
          drop a (columns (length (group_there ws (switch_places ws) i).first.arms) (arms_of_members (members (group_there ws (switch_places ws) i))))
          ≡ read numbered (column_words ws (member_places ws (switch_places ws) i) a)
          ∷ drop (suc a) (columns (length (group_there ws (switch_places ws) i).first.arms) (arms_of_members (members (group_there ws (switch_places ws) i))))
      group_columns_next =
          let n = length group.first.arms in
          let all = columns n (arms_of_members (members group)) in
          drop-cons all a [] (omega (arith, length_columns n (arms_of_members (members group)), first_arms_are ws ps i))
          ∙ ap (λ (t : List Tree). t ∷ drop (suc a) all) (sym group_column_read)

    -- and past the last none
    pub group_columns_end :
        drop (arm_count ws (member (switch_places ws) i))
        (columns (length (group_there ws (switch_places ws) i).first.arms) (arms_of_members (members (group_there ws (switch_places ws) i))))
        ≡ []
    group_columns_end =
        let n = length group.first.arms in
        drop_of_length-le (columns n (arms_of_members (members group))) {i = arms} (omega (arith, length_columns n (arms_of_members (members group)), first_arms_are ws ps i))
