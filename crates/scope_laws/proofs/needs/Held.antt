-- What a scope holds, as words: these are complete and are read as the trees held; and the groups of their switches by places are the groups of the scope's trees,
-- numbered as its walk numbers them (01, "Scoped fusion"). Assumes nothing.
use Prim.Native.Nat.{ℕ, zero, suc, ◌+◌, ◌≤◌, ◌<◌}
use native.Mathlib.Omega.{arith}
use mathlib.Core.Path.{◌≡◌, refl, sym, ◌∙◌, ap, subst}
use mathlib.Core.Bool.{Bool, true, false}
use mathlib.Core.Option.{some}
use mathlib.Core.List.{List, [], ◌∷◌, ◌++◌, map}
use lib.ListN.{length, get_or, take, drop, length-map, length-append}
use lib.Dec.{T}
use Rattle.spec_tree.specs.Tree.{Tree, mname}
use Rattle.spec_tree.specs.Outcome.{Outcome}
use Rattle.spec_tree.specs.Tokens.{read, numbered, trees_in}
use Rattle.spec_tree.proofs.TokenCode.{known_name, coded, all_coded, unnumbered, tokens_complete}
use Rattle.spec_rewrite.specs.Rewrite.{replace_outside_arms}
use Rattle.spec_rewrite.proofs.Counts.{well_formed_all}
use Rattle.spec_cse.specs.Scope.{Group, members, collect_switches, groups_from, Scoped, scope_arms}
use Rattle.laws.proofs.cse.Outcomes.{Good, then_good, good_ok}
use Rattle.words.specs.words.Words.{number}
use Rattle.laws.specs.positions.Places.{numbered_at}
use Rattle.laws.specs.positions.Rounds.{bind_each_on}
use Rattle.laws.proofs.positions.Coded.{is_alone, none_fit, one_fits, first_fits, rest_fits, append_fits, read_fits, read_again, bind_on_fits, outside_arms_fits}
use Rattle.laws.proofs.positions.Extraction.{Every}
use Rattle.reciprocals.proofs.bindings.Parts.{settle_tree, settled_reciprocals, bound_are_settled, AllThere}
use Rattle.laws.specs.switches.Switches.{switch_places, switch_there}
use Rattle.laws.specs.switches.Groups.{group_numbers, member_places, group_there}
use Rattle.laws.proofs.switches.Collected.{Switching, places_switch}
use Rattle.laws.proofs.switches.Grouped.{Opens, every_so, numbers_open, collected_groups}
use Rattle.laws.proofs.switches.GroupColumns.{members_armed, members_by_place}
use Rattle.laws.proofs.switches.Turned.{Armed as ArmedWith}
use Rattle.reciprocals.proofs.final.Trees.{divisors_fit}
use Rattle.laws.proofs.outernames.Arms.{SameNames, SameArms, arms_same}
use Rattle.laws.proofs.outernames.Matches.{AllShaped}
use Rattle.fusion.specs.Settled.{Step, fused_tree, Numbered, Walked, group_columns, numbered_groups, all_steps}
use Rattle.fusion.specs.Whole.{settled_roots, scope_groups}
use Rattle.fusion.specs.Switchless.{switchless, with_switches}
use Rattle.fusion.specs.Words.{numbers_from, all_numbers, steps_at}
use Rattle.fusion.proofs.Held.{groups_held}
use Rattle.fusion.proofs.Grouping.{group_of}
use Rattle.fusion.proofs.Members.{StandAt, all_places, members_before, tree_of_switch, numbers_count, all_steps_at, steps_after}
use Rattle.fusion.specs.place.Parts.{place_groups, joined_groups, group_start, group_end, trees_held, words_held, steps_from}
use Rattle.scope_laws.proofs.needs.Positions.{Ascending, Counted}

-- ---- trees that fit the code

abbrev Fit : List Tree → Type 0
Fit l = T (all_coded is_alone l)

bound_fit : (l : List Tree) (n : ℕ) (ts : List Tree) → Fit l → Fit ts → Fit (bind_each_on l n ts)
unfolding bind_each_on
bound_fit [] n ts g h = h
bound_fit (d ∷ l) n ts g h = bound_fit l (suc n) _ (rest_fits is_alone d l g) (bind_on_fits is_alone d n ts (first_fits is_alone d l g) h)

left_fit : (a b : List Tree) → Fit (a ++ b) → Fit a
left_fit [] b h = none_fit is_alone
left_fit (t ∷ a) b h = one_fits is_alone t a (first_fits is_alone t (a ++ b) h) (left_fit a b (rest_fits is_alone t (a ++ b) h))

right_fit : (a b : List Tree) → Fit (a ++ b) → Fit b
right_fit [] b h = h
right_fit (t ∷ a) b h = right_fit a b (rest_fits is_alone t (a ++ b) h)

with_fit : (l : List Tree) → Fit l → Fit (with_switches l)
unfolding with_switches
with_fit [] h = h
with_fit (t ∷ l) h = go (switchless t) (with_fit l (rest_fits is_alone t l h))
  where
    go : (b : Bool) → Fit (with_switches l) → Fit (elim b [ true ↦ with_switches l | false ↦ t ∷ with_switches l ])
    go true g = g
    go false g = one_fits is_alone t (with_switches l) (first_fits is_alone t l h) g

fit_at : (l : List Tree) → Fit l → (i : ℕ) (d : Tree) → i < length l → T (coded is_alone (get_or l i d))
fit_at [] h i d g = absurd (omega arith)
fit_at (t ∷ l) h zero d g = first_fits is_alone t l h
fit_at (t ∷ l) h (suc i) d g = fit_at l (rest_fits is_alone t l h) i d (omega arith)

match_name_fits : (n : ℕ) → T (known_name is_alone (mname n))
unfolding known_name
match_name_fits n = tt

pub fused_fits : (steps : List Step) (t : Tree) → T (coded is_alone t) → T (coded is_alone (fused_tree steps t))
unfolding fused_tree
fused_fits [] t h = h
fused_fits (s ∷ l) t h =
    fused_fits l (replace_outside_arms s.member (mname s.number) t) (outside_arms_fits is_alone s.member (mname s.number) (match_name_fits s.number) t h)

-- ---- what is held

module _ (ws : List ℕ) (n : ℕ) (places : List ℕ) (there : AllThere ws places) where
  abbrev ts : List Tree
  ts = read numbered ws

  abbrev ds : List Tree
  ds = map (numbered_at ws) places

  settled_fit : Fit (map (settle_tree ds n) ts ++ settled_reciprocals ds n)
  settled_fit = subst Fit (bound_are_settled ds n ts) (bound_fit ds n ts (divisors_fit ws places there) (read_fits ws))

  pub roots_fit : (i : ℕ) (d : Tree) → i < length (settled_roots (map (numbered_at ws) places) n (read numbered ws)) → T (coded is_alone (get_or (settled_roots (map (numbered_at ws) places) n (read numbered ws)) i d))
  unfolding settled_roots
  roots_fit i d h = fit_at (map (settle_tree ds n) ts ++ settled_reciprocals ds n) settled_fit i d h

  pub held_fit : T (all_coded is_alone (trees_held ws n places))
  unfolding trees_held
  held_fit =
      append_fits is_alone (map (settle_tree ds n) ts) (with_switches (settled_reciprocals ds n)) (left_fit (map (settle_tree ds n) ts) (settled_reciprocals ds n) settled_fit)
      (with_fit (settled_reciprocals ds n) (right_fit (map (settle_tree ds n) ts) (settled_reciprocals ds n) settled_fit))

  pub held_complete : trees_in (words_held ws n places) ≡ some (length (trees_held ws n places))
  unfolding words_held
  held_complete = tokens_complete unnumbered is_alone (trees_held ws n places) held_fit

  pub held_read : read numbered (words_held ws n places) ≡ trees_held ws n places
  unfolding words_held
  held_read = read_again (trees_held ws n places) held_fit

  abbrev hs : List ℕ
  hs = words_held ws n places

  abbrev ps : List ℕ
  ps = switch_places hs

  -- the groups by places
  pub groups_by_place : scope_groups (map (numbered_at ws) places) n (read numbered ws) ≡ map (group_there (words_held ws n places) (switch_places (words_held ws n places))) (group_numbers (words_held ws n places) (switch_places (words_held ws n places)))
  groups_by_place = groups_held ds n ts ∙ (ap (λ (l : List Tree). groups_from [] (collect_switches l)) (held_are ∙ sym held_read) ∙ collected_groups hs (length (trees_held ws n places)) held_complete)
    where
      held_are : map (settle_tree (map (numbered_at ws) places) n) (read numbered ws) ++ with_switches (settled_reciprocals (map (numbered_at ws) places) n) ≡ trees_held ws n places
      held_are = (unfold trees_held in refl)

-- ---- numbered groups beside the places of their members

-- each group's members are the switches at its places
abbrev pub Beside : List ℕ → List Numbered → List (List ℕ) → Type 0
Beside hs [] [] = Unit {0}
Beside hs [] (qs ∷ pss) = ⊥
Beside hs (g ∷ l) [] = ⊥
Beside hs (g ∷ l) (qs ∷ pss) = ((members g.group ≡ map (switch_there hs) qs) × Every (Switching hs) qs) × Beside hs l pss

module _ (hs : List ℕ) where
  armed_switch : (k : ℕ) (l : List ℕ) → Every (ArmedWith hs k) l → Every (Switching hs) l
  armed_switch k l h = every_so (ArmedWith hs k) (Switching hs) (λ q a. a.0) l h

  beside_from : (ls : List Numbered) (is : List ℕ) → map group_of ls ≡ map (group_there hs (switch_places hs)) is → Every (Opens hs (switch_places hs) (length (switch_places hs))) is
      → Beside hs ls (map (member_places hs (switch_places hs)) is)
  beside_from [] [] e o = tt
  beside_from [] (i ∷ is) e o = let z : ◌≡◌ {A = ℕ} 0 1 = cc in absurd (omega arith)
  beside_from (g ∷ l) [] e o = let z : ◌≡◌ {A = ℕ} 0 1 = cc in absurd (omega arith)
  beside_from (g ∷ l) (i ∷ is) e o =
      let ps = switch_places hs in
      let a : g.group ≡ group_there hs ps i = cc in
      let b : map group_of l ≡ map (group_there hs ps) is = cc in (
        (ap members a ∙ members_by_place hs ps i o.0.0 o.0.1, armed_switch _ (member_places hs ps i) (members_armed hs ps (places_switch hs) i)),
        beside_from l is b o.1,
      )

  pub beside_groups : (ls : List Numbered) → map group_of ls ≡ map (group_there hs (switch_places hs)) (group_numbers hs (switch_places hs)) → Beside hs ls (place_groups hs)
  unfolding place_groups
  beside_groups ls e = beside_from ls (group_numbers hs (switch_places hs)) e (numbers_open hs (switch_places hs))

  -- ---- what follows from it

  pub beside_counted : (ls : List Numbered) (pss : List (List ℕ)) → Beside hs ls pss → Counted ls pss
  beside_counted [] [] h = tt
  beside_counted [] (qs ∷ pss) h = h
  beside_counted (g ∷ l) [] h = h
  beside_counted (g ∷ l) (qs ∷ pss) h = (sym (ap length h.0.0 ∙ length-map qs (switch_there hs)), beside_counted l pss h.1)

  pub beside_long : (ls : List Numbered) (pss : List (List ℕ)) → Beside hs ls pss → length ls ≡ length pss
  beside_long [] [] h = refl
  beside_long [] (qs ∷ pss) h = absurd h
  beside_long (g ∷ l) [] h = absurd h
  beside_long (g ∷ l) (qs ∷ pss) h = ap suc (beside_long l pss h.1)

  trees_there : (qs : List ℕ) → map (numbered_at hs) qs ≡ map tree_of_switch (map (switch_there hs) qs)
  unfolding switch_there
  trees_there [] = refl
  trees_there (q ∷ qs) = ap (λ (l : List Tree). numbered_at hs q ∷ l) (trees_there qs)

  beside_stand : (ls : List Numbered) (pss : List (List ℕ)) → Beside hs ls pss → StandAt hs ls pss
  beside_stand [] [] h = tt
  beside_stand [] (qs ∷ pss) h = h
  beside_stand (g ∷ l) [] h = h
  beside_stand (g ∷ l) (qs ∷ pss) h = (trees_there qs ∙ ap (map tree_of_switch) (sym h.0.0), beside_stand l pss h.1)

  joined_are : (pss : List (List ℕ)) → joined_groups pss ≡ all_places pss
  unfolding joined_groups
  joined_are [] = refl
  joined_are (qs ∷ pss) = ap (λ (l : List ℕ). qs ++ l) (joined_are pss)

  joined_none : length (joined_groups []) ≡ 0
  unfolding joined_groups
  joined_none = refl

  joined_cons : (qs : List ℕ) (pss : List (List ℕ)) → joined_groups (qs ∷ pss) ≡ qs ++ joined_groups pss
  unfolding joined_groups
  joined_cons qs pss = refl

  before_is : (j : ℕ) (ls : List Numbered) (pss : List (List ℕ)) → Counted ls pss → members_before j ls ≡ length (joined_groups (take j pss))
  before_is zero ls pss c = sym joined_none
  before_is (suc j) [] [] c = sym joined_none
  before_is (suc j) [] (qs ∷ pss) c = absurd c
  before_is (suc j) (g ∷ l) [] c = absurd c
  before_is (suc j) (g ∷ l) (qs ∷ pss) c =
      omega (arith, c.0, before_is j l pss c.1, ap length (joined_cons qs (take j pss)), length-append qs (joined_groups (take j pss)))

  counted_long : (ls : List Numbered) (pss : List (List ℕ)) → Counted ls pss → length (joined_groups pss) ≡ length (all_numbers ls)
  unfolding joined_groups all_numbers
  counted_long [] [] c = refl
  counted_long [] (qs ∷ pss) c = absurd c
  counted_long (g ∷ l) [] c = absurd c
  counted_long (g ∷ l) (qs ∷ pss) c =
      let k = length (members g.group) in
      omega (
        arith,
        c.0,
        counted_long l pss c.1,
        length-append qs (joined_groups pss),
        length-append (numbers_from g.start k) (all_numbers l),
        numbers_count g.start k,
      )

  joined_long : (ls : List Numbered) (pss : List (List ℕ)) → Beside hs ls pss → length (joined_groups pss) ≡ length (all_numbers ls)
  joined_long ls pss h = counted_long ls pss (beside_counted ls pss h)

  steps_are : (ls : List Numbered) (pss : List (List ℕ)) → Beside hs ls pss → all_steps ls ≡ steps_at hs (joined_groups pss) (all_numbers ls)
  steps_are ls pss h = all_steps_at hs ls pss (beside_stand ls pss h) ∙ ap (λ (l : List ℕ). steps_at hs l (all_numbers ls)) (sym (joined_are pss))

  -- the steps of all groups, and of those after one
  pub steps_of_all : (ls : List Numbered) (pss : List (List ℕ)) → Beside hs ls pss → steps_from hs pss (all_numbers ls) 0 ≡ all_steps ls
  unfolding steps_from
  steps_of_all ls pss h = sym (steps_are ls pss h)

  pub steps_of_later : (ls : List Numbered) (pss : List (List ℕ)) → Beside hs ls pss → (j : ℕ) → steps_from hs pss (all_numbers ls) (group_end pss j) ≡ all_steps (drop (suc j) ls)
  unfolding steps_from group_end group_start
  steps_of_later ls pss h j =
      let o = members_before (suc j) ls in
      ap (λ (i : ℕ). steps_at hs (drop i (joined_groups pss)) (drop i (all_numbers ls))) (sym (before_is (suc j) ls pss (beside_counted ls pss h)))
      ∙ sym (steps_after hs (joined_groups pss) ls (suc j) (steps_are ls pss h) (joined_long ls pss h))

-- ---- numbers ascend, where scopes of arms do

less : (low high : ℕ) → low ≤ high → (ls : List Numbered) → Ascending high ls → Ascending low ls
less low high h [] a = tt
less low high h (g ∷ l) a = ((let x = a.0 in omega arith), a.1)

module _ (scope : ℕ → List Tree → Outcome Scoped) (ih : (start : ℕ) (es : List Tree) → T (well_formed_all es) → Good (SameNames start es) (scope start es)) where
  pub groups_ascend : (next : ℕ) (gs : List Group) → AllShaped gs → Good (λ (l : Walked). Ascending next l.groups) (numbered_groups scope next gs)
  unfolding numbered_groups group_columns
  groups_ascend next [] s = good_ok (λ (l : Walked). Ascending next l.groups) (record { groups = []; next = next; extracted = 0 }) tt
  groups_ascend next (g ∷ gs) s =
      let k = length (members g) in
      let Q : Walked → Type 0 = λ l. Ascending next l.groups in
      then_good (SameArms (next + k) (group_columns g)) Q (scope_arms scope (next + k) (group_columns g)) (arms_same scope ih (group_columns g) (next + k) s.0.1) _
      (λ a A. then_good (λ (l : Walked). Ascending a.next l.groups) Q (numbered_groups scope a.next gs) (groups_ascend a.next gs s.1) _
      (λ r R. good_ok Q _ (omega arith, less (next + k) a.next A.later r.groups R)))
