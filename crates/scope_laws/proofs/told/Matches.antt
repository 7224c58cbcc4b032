-- The match of a numbered group, as words, is made of what stands at the places of its members (01, "Scoped fusion"). Assumes nothing.
use Prim.Native.Nat.{ℕ, zero, suc, ◌+◌, ◌*◌, ◌<◌}
use native.Mathlib.Omega.{arith}
use mathlib.Core.Path.{◌≡◌, refl, sym, ◌∙◌, ap, ap₂}
use mathlib.Core.List.{List, [], ◌∷◌, ◌++◌, map}
use lib.ListN.{length, get_or, take, drop, length-append, length-map}
use lib.Seq.{take_at}
use Rattle.spec_tree.specs.Outcome.{Outcome}
use Rattle.spec_tree.specs.Tree.{Tree}
use Rattle.spec_tree.specs.Tokens.{word, tokens, kind_of, name_code}
use Rattle.words.specs.words.Words.{number}
use Rattle.spec_cse.specs.AnswerRows.{match_row, names_words, intermediate_words, arms_words}
use Rattle.spec_cse.specs.Scope.{Switch, Group, members, member_names, Scoped, Armed, scope_arms}
use Rattle.spec_cse.specs.Read.{arm_count as arms_in}
use Rattle.laws.proofs.cse.Outcomes.{Good, then_good, any_good, good_ok}
use Rattle.laws.specs.positions.Places.{numbered_at}
use Rattle.laws.proofs.positions.Extraction.{Every}
use Rattle.laws.specs.switches.Switches.{key_place, arm_count, switch_places, switch_there}
use Rattle.laws.specs.switches.Groups.{member, member_switch, group_there}
use Rattle.laws.proofs.switches.Grouped.{numbers_open}
use Rattle.fusion.specs.Settled.{Step, fused_tree, Numbered, group_columns, Walked, numbered_groups, all_steps, group_match}
use Rattle.fusion.specs.Words.{steps_at, numbers_from, all_numbers}
use Rattle.fusion.proofs.Members.{tree_of_switch, StandAt, all_places, members_before, numbers_count, all_steps_at, all_numbers_from, steps_after}
use Rattle.fusion.specs.place.Parts.{place_groups, joined_groups, group_at, group_start, group_end, opener, steps_from, key_run, name_rows, names_run, match_head, match_run}
use Rattle.scope_laws.proofs.told.Groups.{group_of, places_of, numbers_of, OpensGroup, group_places, number_opens, opener_is, members_are_at, members_count, columns_count}
use Rattle.scope_laws.proofs.told.Walking.{arm_words}
use Rattle.laws.proofs.cse.Widths.{member_names_long}

abbrev pub its_group : Numbered → Group
its_group g = g.group

-- ---- as many arms as columns

abbrev pub ArmedWell : Numbered → Type 0
ArmedWell g = arms_in g.armed.arms ≡ length (group_columns g.group)

module _ (scope : ℕ → List Tree → Outcome Scoped) where
  arms_many : (next : ℕ) (cs : List (List Tree)) → Good (λ (a : Armed). arms_in a.arms ≡ length cs) (scope_arms scope next cs)
  unfolding scope_arms arms_in
  arms_many next [] = good_ok (λ (a : Armed). arms_in a.arms ≡ 0) _ refl
  arms_many next (c ∷ cs) =
      any_good (λ (a : Armed). arms_in a.arms ≡ suc (length cs)) (scope next c) _
      (λ a. then_good (λ (r : Armed). arms_in r.arms ≡ length cs) (λ (r : Armed). arms_in r.arms ≡ suc (length cs)) (scope_arms scope a.next cs) (arms_many a.next cs) _
      (λ r e. good_ok (λ (r : Armed). arms_in r.arms ≡ suc (length cs)) _ (ap suc e)))

  pub groups_armed : (next : ℕ) (gs : List Group) → Good (λ (l : Walked). Every ArmedWell l.groups) (numbered_groups scope next gs)
  unfolding numbered_groups
  groups_armed next [] = good_ok (λ (l : Walked). Every ArmedWell l.groups) _ tt
  groups_armed next (g ∷ gs) =
      let Q : Walked → Type 0 = λ l. Every ArmedWell l.groups in
      then_good (λ (a : Armed). arms_in a.arms ≡ length (group_columns g)) Q (scope_arms scope (next + length (members g)) (group_columns g))
      (arms_many (next + length (members g)) (group_columns g)) _
      (λ a e. then_good Q Q (numbered_groups scope a.next gs) (groups_armed a.next gs) _ (λ r h. good_ok Q _ (e, h)))

-- ---- the groups at their places

no_one : {A : Type 0} {a : A} {l : List A} → [] ≡ a ∷ l → ⊥
no_one e = let z : ◌≡◌ {A = ℕ} 0 1 = cc in omega arith

trees_there : (hs l : List ℕ) → map (numbered_at hs) l ≡ map tree_of_switch (map (switch_there hs) l)
unfolding switch_there
trees_there hs [] = refl
trees_there hs (p ∷ l) = ap (λ (r : List Tree). numbered_at hs p ∷ r) (trees_there hs l)

stands : (hs nums : List ℕ) (gs : List Numbered) → map its_group gs ≡ map (group_of hs) nums → Every (OpensGroup hs) nums → StandAt hs gs (map (places_of hs) nums)
stands hs [] [] e h = tt
stands hs [] (g ∷ gs) e h = absurd (no_one (sym e))
stands hs (i ∷ nums) [] e h = absurd (no_one e)
stands hs (i ∷ nums) (g ∷ gs) e h =
    let p : g.group ≡ group_of hs i = cc in
    let q : map its_group gs ≡ map (group_of hs) nums = cc in (
      trees_there hs (places_of hs i) ∙ ap (map tree_of_switch) (sym (members_are_at hs i h.0) ∙ ap members (sym p)),
      stands hs nums gs q h.1,
    )

joined_all : (pss : List (List ℕ)) → all_places pss ≡ joined_groups pss
unfolding joined_groups
joined_all [] = refl
joined_all (ps ∷ pss) = ap (λ (r : List ℕ). ps ++ r) (joined_all pss)

module _ (hs : List ℕ) where
  stand_length : (ps : List ℕ) (l : List Switch) → map (numbered_at hs) ps ≡ map tree_of_switch l → length l ≡ length ps
  stand_length ps l e = sym (length-map l tree_of_switch) ∙ (ap length (sym e) ∙ length-map ps (numbered_at hs))

  before_are : (j : ℕ) (gs : List Numbered) (pss : List (List ℕ)) → StandAt hs gs pss → members_before j gs ≡ length (joined_groups (take j pss))
  unfolding joined_groups
  before_are zero gs pss h = refl
  before_are (suc j) [] [] h = refl
  before_are (suc j) [] (ps ∷ pss) h = absurd h
  before_are (suc j) (g ∷ gs) [] h = absurd h
  before_are (suc j) (g ∷ gs) (ps ∷ pss) h =
      let a = stand_length ps (members g.group) h.0 in
      let b = before_are j gs pss h.1 in
      omega (arith, a, b, length-append ps (joined_groups (take j pss)))

  numbers_many : (gs : List Numbered) (pss : List (List ℕ)) → StandAt hs gs pss → length (joined_groups pss) ≡ length (all_numbers gs)
  unfolding joined_groups all_numbers
  numbers_many [] [] h = refl
  numbers_many [] (ps ∷ pss) h = absurd h
  numbers_many (g ∷ gs) [] h = absurd h
  numbers_many (g ∷ gs) (ps ∷ pss) h =
      let s = members g.group in
      let ns = numbers_from g.start (length s) in
      omega (
        arith,
        stand_length ps s h.0,
        numbers_many gs pss h.1,
        length-append ps (joined_groups pss),
        length-append ns (all_numbers gs),
        numbers_count g.start (length s),
      )

-- ---- one of them

its_number : (hs nums : List ℕ) (gs : List Numbered) → map its_group gs ≡ map (group_of hs) nums → (j : ℕ) (g : Numbered) (after : List Numbered) → drop j gs ≡ g ∷ after
    → (j < length nums) × (g.group ≡ group_of hs (get_or nums j 0))
its_number hs nums [] e zero g after d = absurd (no_one d)
its_number hs nums [] e (suc j) g after d = absurd (no_one d)
its_number hs [] (c ∷ gs) e j g after d = absurd (no_one (sym e))
its_number hs (i ∷ nums) (c ∷ gs) e zero g after d =
    let p : c.group ≡ group_of hs i = cc in
    let q : c ≡ g = cc in
    (omega arith, ap its_group (sym q) ∙ p)
its_number hs (i ∷ nums) (c ∷ gs) e (suc j) g after d =
    let q : map its_group gs ≡ map (group_of hs) nums = cc in
    let r = its_number hs nums gs q j g after d in
    (let a = r.0 in omega (arith, a), r.1)

every_there : (P : Numbered → Type 0) (gs : List Numbered) → Every P gs → (j : ℕ) (g : Numbered) (after : List Numbered) → drop j gs ≡ g ∷ after → P g
every_there P [] h zero g after d = absurd (no_one d)
every_there P [] h (suc j) g after d = absurd (no_one d)
every_there P (c ∷ gs) h zero g after d = let q : c ≡ g = cc in rw q at h.0
every_there P (c ∷ gs) h (suc j) g after d = every_there P gs h.1 j g after d

arms_there : (gs : List Numbered) (j : ℕ) (g : Numbered) (after : List Numbered) → drop j gs ≡ g ∷ after → get_or (map arm_words gs) j [] ≡ arm_words g
arms_there [] zero g after d = absurd (no_one d)
arms_there [] (suc j) g after d = absurd (no_one d)
arms_there (c ∷ gs) zero g after d = let q : c ≡ g = cc in ap arm_words q
arms_there (c ∷ gs) (suc j) g after d = arms_there gs j g after d

after_there : (gs : List Numbered) (j : ℕ) (g : Numbered) (after : List Numbered) → drop j gs ≡ g ∷ after → drop (suc j) gs ≡ after
after_there [] zero g after d = absurd (no_one d)
after_there [] (suc j) g after d = absurd (no_one d)
after_there (c ∷ gs) zero g after d = cc
after_there (c ∷ gs) (suc j) g after d = after_there gs j g after d

-- ---- its match

names_rows : (hs : List ℕ) (gs : List (List ℕ)) (numbers : List ℕ) (n : ℕ) (l : List Switch) → names_words number (member_names n l) ≡ name_rows hs gs numbers (numbers_from n (length l))
unfolding names_words member_names name_rows numbers_from name_code
names_rows hs gs numbers n [] = refl
names_rows hs gs numbers n (s ∷ l) = ap (λ (r : List ℕ). word 33 (2 + 3 * n) ∷ r) (names_rows hs gs numbers (suc n) l)

together : (h i : ℕ) (a b c d e f : List ℕ) → h ≡ i → a ≡ b → c ≡ d → e ≡ f → ◌≡◌ {A = List ℕ} (h ∷ (a ++ (c ++ e))) (i ∷ (b ++ (d ++ f)))
together h i a b c d e f p q r s = rw p (rw q (rw r (rw s refl)))

first_names : (g : Numbered) (after : List Numbered) → take (length (members g.group)) (all_numbers (g ∷ after)) ≡ numbers_from g.start (length (members g.group))
unfolding all_numbers
first_names g after =
    let n = length (members g.group) in
    take_at (numbers_from g.start n) (all_numbers after) n (numbers_count g.start n)

module _ (hs : List ℕ) (gs : List Numbered) (same : map its_group gs ≡ map (group_of hs) (numbers_of hs)) where
  abbrev pss : List (List ℕ)
  pss = place_groups hs

  abbrev ns : List ℕ
  ns = all_numbers gs

  pub stand : StandAt hs gs (place_groups hs)
  unfolding place_groups
  stand = stands hs (numbers_of hs) gs same (numbers_open hs (switch_places hs))

  pub all_steps_are : all_steps gs ≡ steps_at hs (joined_groups (place_groups hs)) (all_numbers gs)
  all_steps_are = all_steps_at hs gs pss stand ∙ ap (λ (l : List ℕ). steps_at hs l ns) (joined_all pss)

  pub all_steps_from : all_steps gs ≡ steps_from hs (place_groups hs) (all_numbers gs) 0
  unfolding steps_from
  all_steps_from = all_steps_are

  start_is : (j : ℕ) → members_before j gs ≡ group_start pss j
  unfolding group_start
  start_is j = before_are hs j gs pss stand

  later_steps : (j : ℕ) (after : List Numbered) → drop (suc j) gs ≡ after → all_steps after ≡ steps_from hs pss ns (group_end pss j)
  unfolding steps_from group_end
  later_steps j after e =
      ap all_steps (sym e)
      ∙ (steps_after hs (joined_groups pss) gs (suc j) all_steps_are (numbers_many hs gs pss stand)
      ∙ ap (λ (o : ℕ). steps_at hs (drop o (joined_groups pss)) (drop o ns)) (start_is (suc j)))

  module _ (well : Every ArmedWell gs) (j : ℕ) (g : Numbered) (after : List Numbered) (here : drop j gs ≡ g ∷ after) where
    abbrev i : ℕ
    i = get_or (numbers_of hs) j 0

    inside : j < length (numbers_of hs)
    inside = (its_number hs (numbers_of hs) gs same j g after here).0

    opens : OpensGroup hs (get_or (numbers_of hs) j 0)
    opens = number_opens hs j inside

    group_is : g.group ≡ group_of hs (get_or (numbers_of hs) j 0)
    group_is = (its_number hs (numbers_of hs) gs same j g after here).1

    places_are : group_at pss j ≡ places_of hs i
    places_are = group_places hs j inside

    first_at : opener pss j ≡ member (switch_places hs) i
    unfolding opener
    first_at = ap (λ (l : List ℕ). get_or l 0 0) places_are ∙ opener_is hs i opens

    kind_is : g.group.first.kind ≡ kind_of (get_or hs (opener pss j) 0)
    kind_is = ap (λ (x : Group). x.first.kind) group_is ∙ (known ∙ ap (λ (p : ℕ). kind_of (get_or hs p 0)) (sym first_at))
      where
        known : (group_of hs i).first.kind ≡ kind_of (get_or hs (member (switch_places hs) i) 0)
        known = (unfold group_there in unfold member_switch in unfold switch_there in refl)

    key_is : g.group.first.key ≡ numbered_at hs (key_place (opener pss j))
    key_is = ap (λ (x : Group). x.first.key) group_is ∙ (known ∙ ap (λ (p : ℕ). numbered_at hs (key_place p)) (sym first_at))
      where
        known : (group_of hs i).first.key ≡ numbered_at hs (key_place (member (switch_places hs) i))
        known = (unfold group_there in unfold member_switch in unfold switch_there in refl)

    many : length (members g.group) ≡ length (group_at pss j)
    many = ap (λ (x : Group). length (members x)) group_is ∙ (members_count hs i opens ∙ ap length (sym places_are))

    arms_many_are : arms_in g.armed.arms ≡ arm_count hs (opener pss j)
    unfolding opener
    arms_many_are =
        every_there ArmedWell gs well j g after here
        ∙ (ap (λ (x : Group). length (group_columns x)) group_is
        ∙ (columns_count hs i opens ∙ ap (λ (l : List ℕ). arm_count hs (get_or l 0 0)) (sym places_are)))

    head_is :
        word (match_row g.group.first.kind) (suc (length (member_names g.start (members g.group)) + arms_in g.armed.arms))
        ≡ match_head hs pss ns j
    unfolding match_head
    head_is =
        ap₂ (λ (x y : ℕ). word (match_row x) (suc y)) kind_is
        (ap₂ ◌+◌ (member_names_long g.start (members g.group) ∙ many) arms_many_are)

    key_words : tokens number (fused_tree (all_steps after) g.group.first.key) ≡ key_run hs pss ns j
    unfolding key_run
    key_words = ap₂ (λ (s : List Step) (t : Tree). tokens number (fused_tree s t)) (later_steps j after (after_there gs j g after here)) key_is

    names_are : names_words number (member_names g.start (members g.group)) ≡ names_run hs pss ns j
    unfolding names_run
    names_are =
        let s = members g.group in
        names_rows hs pss ns g.start s
        ∙ ap (name_rows hs pss ns)
        (sym (first_names g after)
        ∙ (ap (λ (l : List Numbered). take (length s) (all_numbers l)) (sym here)
        ∙ (ap (take (length s)) (all_numbers_from j gs)
        ∙ ap₂ (λ (x o : ℕ). take x (drop o ns)) many (start_is j))))

    pub match_words : intermediate_words number (group_match g after) ≡ match_run hs (place_groups hs) (all_numbers gs) (get_or (map arm_words gs) j []) j
    unfolding intermediate_words group_match match_run
    match_words =
        together (word (match_row g.group.first.kind) (suc (length (member_names g.start (members g.group)) + arms_in g.armed.arms))) (match_head hs pss ns j)
        (tokens number (fused_tree (all_steps after) g.group.first.key)) (key_run hs pss ns j) (names_words number (member_names g.start (members g.group)))
        (names_run hs pss ns j) (arms_words number g.armed.arms) (get_or (map arm_words gs) j []) head_is key_words names_are (sym (arms_there gs j g after here))
