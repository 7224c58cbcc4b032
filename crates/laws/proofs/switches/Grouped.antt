-- The groups of some switches by numbers: a group for each number that opens one, with the members whose first it is (specs, Groups). Assumes nothing.
use Prim.Native.Nat.{ℕ, zero, suc, ◌≤◌, ◌<◌}
use native.Mathlib.Omega.{arith}
use mathlib.Core.Path.{◌≡◌, refl, sym, ◌∙◌, ap, ap₂}
use mathlib.Core.Bool.{Bool, true, false}
use mathlib.Core.Option.{some}
use mathlib.Core.List.{List, [], ◌∷◌, ◌++◌, append_assoc, append-nil, map}
use borrow.Author.Tests.{eqb-true, eqb-false, eq-eqb, ne_eqb}
use lib.ListN.{length, get_or, take, drop}
use lib.Seq.{take-suc, take-length}
use lib.Dec.{eqb}
use Rattle.spec_tree.specs.Tokens.{read, numbered, trees_in}
use Rattle.spec_tree.proofs.Tests.{is_true}
use Rattle.spec_tree.proofs.TokenLaws.{map_append}
use Rattle.spec_cse.specs.Scope.{Switch, Group, collect_switches, joins, place, groups_from, members}
use Rattle.laws.proofs.positions.Extraction.{Every, every_append}
use Rattle.laws.specs.switches.Switches.{switch_places, switch_there}
use Rattle.laws.specs.switches.Groups.{joins_at, member, group_first, firsts_within, group_numbers, members_within, members_of, member_switch, group_there}
use Rattle.laws.proofs.switches.Collected.{collected_are}
use Rattle.laws.proofs.switches.Joining.{joins_there, first_within, none_sooner, first_joins, first_opens}

-- ---- lists

pub every_so : {A : Type 0} (P Q : A → Type 0) → ((a : A) → P a → Q a) → (l : List A) → Every P l → Every Q l
every_so P Q f [] h = tt
every_so P Q f (a ∷ l) h = (f a h.0, every_so P Q f l h.1)

map_same : {A B : Type 0} (f g : A → B) (l : List A) → Every (λ a. f a ≡ g a) l → map f l ≡ map g l
map_same f g [] h = refl
map_same f g (a ∷ l) h = ap₂ ◌∷◌ h.0 (map_same f g l h.1)

-- ---- groups one switch at a time

groups_both : (gs : List Group) (a b : List Switch) → groups_from gs (a ++ b) ≡ groups_from (groups_from gs a) b
unfolding groups_from
groups_both gs [] b = refl
groups_both gs (s ∷ a) b = groups_both (place s gs) a b

one_more : (gs : List Group) (s : Switch) → groups_from gs (s ∷ []) ≡ place s gs
unfolding groups_from
one_more gs s = refl

abbrev alone : Switch → Group
alone s = record { first = s; others = [] }

abbrev with : Group → Switch → Group
with g s = record { first = g.first; others = g.others ++ (s ∷ []) }

module _ (s : Switch) where
  place_past : (g : Group) (l : List Group) → joins g.first s ≡ false → place s (g ∷ l) ≡ g ∷ place s l
  unfolding place
  place_past g l e = ap (λ (b : Bool). elim b as (λ _. List Group) [ true ↦ with g s ∷ l | false ↦ g ∷ place s l ]) e

  place_here : (g : Group) (l : List Group) → joins g.first s ≡ true → place s (g ∷ l) ≡ with g s ∷ l
  unfolding place
  place_here g l e = ap (λ (b : Bool). elim b as (λ _. List Group) [ true ↦ with g s ∷ l | false ↦ g ∷ place s l ]) e

  place_end : place s [] ≡ alone s ∷ []
  unfolding place
  place_end = refl

  abbrev Apart : Group → Type 0
  Apart g = joins g.first s ≡ false

  place_after : (a b : List Group) → Every Apart a → place s (a ++ b) ≡ a ++ place s b
  place_after [] b h = refl
  place_after (g ∷ a) b h = place_past g (a ++ b) h.0 ∙ ap (λ (l : List Group). g ∷ l) (place_after a b h.1)

module _ (ws ps : List ℕ) where
  abbrev S : ℕ → Switch
  S = member_switch ws ps

  abbrev opener : ℕ → ℕ
  opener = group_first ws ps

  -- ---- the numbers that open a group

  opens_step : (P : ℕ → Type 0) (b : Bool) (n : ℕ) → (b ≡ true → P n) → Every P (elim b [ true ↦ n ∷ [] | false ↦ [] ])
  opens_step P true n h = (h refl, tt)
  opens_step P false n h = tt

  abbrev pub Opens : ℕ → ℕ → Type 0
  Opens n i = (i < n) × (group_first ws ps i ≡ i)

  pub firsts_open : (n : ℕ) → Every (Opens n) (firsts_within ws ps n)
  unfolding firsts_within
  firsts_open zero = tt
  firsts_open (suc n) =
      every_append (Opens (suc n)) (firsts_within ws ps n) (elim (eqb (opener n) n) [ true ↦ n ∷ [] | false ↦ [] ])
      (every_so (Opens n) (Opens (suc n)) (λ i o. (let h = o.0 in omega arith, o.1)) (firsts_within ws ps n) (firsts_open n))
      (opens_step (Opens (suc n)) (eqb (opener n) n) n (λ e. (omega arith, eqb-true (opener n) n e)))

  -- one of them, with those before it and those after
  pub record Split (f n : ℕ) : Type 0 where
    pub after : List ℕ
    pub are : firsts_within ws ps n ≡ firsts_within ws ps f ++ (f ∷ after)
    pub later : Every (λ i. f < i) after

  pub splits : (f n : ℕ) → f < n → group_first ws ps f ≡ f → Split f n
  unfolding firsts_within
  splits f zero h o = absurd (omega arith)
  splits f (suc n) h o = go (eqb f n) refl (λ k. splits f n k o)
    where
      go : (b : Bool) → eqb f n ≡ b → (f < n → Split f n) → Split f (suc n)
      go true e g =
          let z : f ≡ n = eqb-true f n e in
          let there : eqb (opener n) n ≡ true = eq-eqb (opener n) n (ap opener (sym z) ∙ o ∙ z) in
          record {
            after = [];
            are =
                ap (λ (b : Bool). firsts_within ws ps n ++ elim b as (λ _. List ℕ) [ true ↦ n ∷ [] | false ↦ [] ]) there
                ∙ ap (λ (k : ℕ). firsts_within ws ps k ++ (k ∷ [])) (sym z);
            later = tt;
          }
      go false e g =
          let ne = eqb-false f n e in
          let less : f < n = omega (arith, ne) in
          let s = g less in
          let more : List ℕ = elim (eqb (opener n) n) [ true ↦ n ∷ [] | false ↦ [] ] in
          record {
            after = s.after ++ more;
            are = ap (λ (l : List ℕ). l ++ more) s.are ∙ append_assoc (firsts_within ws ps f) (f ∷ s.after) more;
            later = every_append (λ i. f < i) s.after more s.later (opens_step (λ i. f < i) (eqb (opener n) n) n (λ e. less));
          }

  -- ---- the members of a group

  no_members : (i n : ℕ) → n ≤ i → members_within ws ps i n ≡ []
  unfolding members_within
  no_members i zero h = refl
  no_members i (suc n) h =
      let w = first_within ws ps n in
      let other : eqb (opener n) i ≡ false = ne_eqb (opener n) i (λ e. omega arith) in
      ap₂ (λ (l : List ℕ) (b : Bool). l ++ elim b as (λ _. List ℕ) [ true ↦ n ∷ [] | false ↦ [] ]) (no_members i n (omega arith)) other

  pub not_member : (i n : ℕ) → (group_first ws ps n ≡ i → ⊥) → members_within ws ps i (suc n) ≡ members_within ws ps i n
  unfolding members_within
  not_member i n h =
      ap (λ (b : Bool). members_within ws ps i n ++ elim b as (λ _. List ℕ) [ true ↦ n ∷ [] | false ↦ [] ]) (ne_eqb (opener n) i h)
      ∙ append-nil (members_within ws ps i n)

  pub is_member : (i n : ℕ) → group_first ws ps n ≡ i → members_within ws ps i (suc n) ≡ members_within ws ps i n ++ (n ∷ [])
  unfolding members_within
  is_member i n h = ap (λ (b : Bool). members_within ws ps i n ++ elim b as (λ _. List ℕ) [ true ↦ n ∷ [] | false ↦ [] ]) (eq-eqb (opener n) i h)

  first_kept : (l m : List ℕ) (i : ℕ) → l ≡ i ∷ drop 1 l → (l ++ m ≡ i ∷ drop 1 (l ++ m)) × (drop 1 (l ++ m) ≡ drop 1 l ++ m)
  first_kept [] m i e = absurd (let z : ◌≡◌ {A = ℕ} 0 1 = ap length e in omega arith)
  first_kept (x ∷ l) m i e = (ap (λ (r : List ℕ). get_or r 0 0 ∷ (l ++ m)) e, refl)

  -- the one that opens a group is its first member
  pub opener_first : (i n : ℕ) → i < n → group_first ws ps i ≡ i → members_within ws ps i n ≡ i ∷ drop 1 (members_within ws ps i n)
  unfolding members_within
  opener_first i zero h o = absurd (omega arith)
  opener_first i (suc n) h o = go (eqb i n) refl (λ k. opener_first i n k o)
    where
      go : (b : Bool) → eqb i n ≡ b → (i < n → members_within ws ps i n ≡ i ∷ drop 1 (members_within ws ps i n))
          → members_within ws ps i (suc n) ≡ i ∷ drop 1 (members_within ws ps i (suc n))
      go true e g =
          let z : i ≡ n = eqb-true i n e in
          let all : members_within ws ps i (suc n) ≡ i ∷ [] =
          is_member i n (ap opener (sym z) ∙ o) ∙ ap₂ (λ (l : List ℕ) (k : ℕ). l ++ (k ∷ [])) (no_members i n (omega arith)) (sym z) in
          all ∙ sym (ap (λ (l : List ℕ). i ∷ drop 1 l) all)
      go false e g =
          let ne = eqb-false i n e in
          (first_kept (members_within ws ps i n) (elim (eqb (opener n) i) [ true ↦ n ∷ [] | false ↦ [] ]) i (g (omega (arith, ne)))).0

  -- ---- groups of the first n

  abbrev group_within : ℕ → ℕ → Group
  group_within n i = record { first = S i; others = map S (drop 1 (members_within ws ps i n)) }

  joins_is : (i j : ℕ) → joins (S i) (S j) ≡ joins_at ws (member ps i) (member ps j)
  unfolding member_switch
  joins_is i j = joins_there ws (member ps i) (member ps j)

  apart_before : (n k : ℕ) → k < group_first ws ps n → joins (S k) (S n) ≡ false
  apart_before n k h = joins_is k n ∙ none_sooner ws ps n k h

  all_apart : (n : ℕ) (l : List ℕ) → Every (λ i. joins (S i) (S n) ≡ false) l → Every (Apart (S n)) (map (group_within n) l)
  all_apart n [] h = tt
  all_apart n (i ∷ l) h = (h.0, all_apart n l h.1)

  same_group : (n i : ℕ) → (group_first ws ps n ≡ i → ⊥) → group_within n i ≡ group_within (suc n) i
  same_group n i h = ap (λ (l : List ℕ). record { first = S i; others = map S (drop 1 l) }) (sym (not_member i n h))

  same_groups : (n : ℕ) (l : List ℕ) → Every (λ i. group_first ws ps n ≡ i → ⊥) l → map (group_within n) l ≡ map (group_within (suc n)) l
  same_groups n l h = map_same (group_within n) (group_within (suc n)) l (every_so (λ i. opener n ≡ i → ⊥) (λ i. group_within n i ≡ group_within (suc n) i) (λ i g. same_group n i g) l h)

  -- n opens a group
  opened : (n : ℕ) → group_first ws ps n ≡ n → place (S n) (map (group_within n) (firsts_within ws ps n)) ≡ map (group_within (suc n)) (firsts_within ws ps n ++ (n ∷ []))
  opened n o =
      let l = firsts_within ws ps n in
      let h = firsts_open n in
      let far = every_so (Opens n) (λ i. joins (S i) (S n) ≡ false) (λ i g. let k = g.0 in apart_before n i (omega arith)) l h in
      let other = every_so (Opens n) (λ i. opener n ≡ i → ⊥) (λ i g e. let k = g.0 in omega arith) l h in
      let own : members_within ws ps n (suc n) ≡ n ∷ [] = is_member n n o ∙ ap (λ (l : List ℕ). l ++ (n ∷ [])) (no_members n n (omega arith)) in
      let new : alone (S n) ≡ group_within (suc n) n = ap (λ (l : List ℕ). record { first = S n; others = map S (drop 1 l) }) (sym own) in
      ap (place (S n)) (sym (append-nil (map (group_within n) l)))
      ∙ place_after (S n) (map (group_within n) l) [] (all_apart n l far)
      ∙ ap (λ (r : List Group). map (group_within n) l ++ r) (place_end (S n))
      ∙ ap₂ (λ (a : List Group) (g : Group). a ++ (g ∷ [])) (same_groups n l other) new
      ∙ sym (map_append (group_within (suc n)) l (n ∷ []))

  -- n joins the group that f opens
  joined_one :
      (n f : ℕ) → group_first ws ps n ≡ f → f < n → place (S n) (map (group_within n) (firsts_within ws ps n)) ≡ map (group_within (suc n)) (firsts_within ws ps n)
  joined_one n f e less =
      let own : opener f ≡ f = ap opener (sym e) ∙ first_opens ws ps n ∙ e in
      let s = splits f n less own in
      let a = firsts_within ws ps f in
      let b = s.after in
      let h = firsts_open f in
      let G = group_within n in
      let far = every_so (Opens f) (λ i. joins (S i) (S n) ≡ false) (λ i g. let k = g.0 in apart_before n i (omega arith)) a h in
      let other_a = every_so (Opens f) (λ i. opener n ≡ i → ⊥) (λ i g d. let k = g.0 in omega arith) a h in
      let other_b = every_so (λ i. f < i) (λ i. opener n ≡ i → ⊥) (λ i g d. omega arith) b s.later in
      let joins_f : joins (S f) (S n) ≡ true =
      joins_is f n ∙ ap (λ (k : ℕ). joins_at ws (member ps k) (member ps n)) (sym e)
      ∙ is_true (joins_at ws (member ps (opener n)) (member ps n)) (first_joins ws ps n) in
      let longer : map S (drop 1 (members_within ws ps f n)) ++ (S n ∷ []) ≡ map S (drop 1 (members_within ws ps f (suc n))) =
      sym (ap (λ (l : List ℕ). map S (drop 1 l)) (is_member f n e)
      ∙ ap (map S) (first_kept (members_within ws ps f n) (n ∷ []) f (opener_first f n less own)).1
      ∙ map_append S (drop 1 (members_within ws ps f n)) (n ∷ [])) in
      let grown : with (G f) (S n) ≡ group_within (suc n) f = ap (λ (l : List Switch). record { first = S f; others = l }) longer in
      ap (λ (l : List ℕ). place (S n) (map G l)) s.are
      ∙ ap (place (S n)) (map_append G a (f ∷ b))
      ∙ place_after (S n) (map G a) (G f ∷ map G b) (all_apart n a far)
      ∙ ap (λ (l : List Group). map G a ++ l) (place_here (S n) (G f) (map G b) joins_f)
      ∙ ap₂ (λ (l r : List Group). l ++ r) (same_groups n a other_a) (ap₂ ◌∷◌ grown (same_groups n b other_b))
      ∙ sym (map_append (group_within (suc n)) a (f ∷ b))
      ∙ ap (map (group_within (suc n))) (sym s.are)

  placed : (n : ℕ) → place (S n) (map (group_within n) (firsts_within ws ps n)) ≡ map (group_within (suc n)) (firsts_within ws ps (suc n))
  unfolding firsts_within
  placed n = go (eqb (opener n) n) refl
    where
      go : (b : Bool) → eqb (opener n) n ≡ b
          → place (S n) (map (group_within n) (firsts_within ws ps n)) ≡ map (group_within (suc n)) (firsts_within ws ps n ++ elim b as (λ _. List ℕ) [ true ↦ n ∷ [] | false ↦ [] ])
      go true e = opened n (eqb-true (opener n) n e)
      go false e =
          let ne = eqb-false (opener n) n e in
          let w = first_within ws ps n in
          joined_one n (opener n) refl (omega (arith, ne, w)) ∙ ap (map (group_within (suc n))) (sym (append-nil (firsts_within ws ps n)))

  grouped_within : (n : ℕ) → n ≤ length ps → groups_from [] (map (switch_there ws) (take n ps)) ≡ map (group_within n) (firsts_within ws ps n)
  grouped_within zero h = (unfold groups_from firsts_within in refl)
  grouped_within (suc n) h =
      let here : switch_there ws (get_or ps n 0) ≡ S n = (unfold member_switch member in refl) in
      ap (λ (l : List ℕ). groups_from [] (map (switch_there ws) l)) (take-suc ps n 0 (omega arith))
      ∙ ap (groups_from []) (map_append (switch_there ws) (take n ps) (get_or ps n 0 ∷ []))
      ∙ groups_both [] (map (switch_there ws) (take n ps)) (switch_there ws (get_or ps n 0) ∷ [])
      ∙ one_more (groups_from [] (map (switch_there ws) (take n ps))) (switch_there ws (get_or ps n 0))
      ∙ ap₂ place here (grouped_within n (omega arith))
      ∙ placed n

  -- the groups of all: one for each number that opens one, in order
  pub groups_there : groups_from [] (map (switch_there ws) ps) ≡ map (group_there ws ps) (group_numbers ws ps)
  unfolding group_there group_numbers members_of
  groups_there = ap (λ (l : List ℕ). groups_from [] (map (switch_there ws) l)) (sym (take-length ps)) ∙ grouped_within (length ps) (omega arith)

  -- each of those numbers is one of a switch that opens a group
  pub numbers_open : Every (Opens (length ps)) (group_numbers ws ps)
  unfolding group_numbers
  numbers_open = firsts_open (length ps)

  -- the members of such a group: those whose group it is, the opener first
  pub members_there : (i : ℕ) → i < length ps → group_first ws ps i ≡ i → members (group_there ws ps i) ≡ map (member_switch ws ps) (members_of ws ps i)
  unfolding members group_there members_of
  members_there i h o = ap (map (member_switch ws ps)) (sym (opener_first i (length ps) h o))

-- ---- of the switches of words

pub collected_groups :
    (ws : List ℕ) (m : ℕ) → trees_in ws ≡ some m
    → groups_from [] (collect_switches (read numbered ws)) ≡ map (group_there ws (switch_places ws)) (group_numbers ws (switch_places ws))
collected_groups ws m c = ap (groups_from []) (collected_are ws m c) ∙ groups_there ws (switch_places ws)
