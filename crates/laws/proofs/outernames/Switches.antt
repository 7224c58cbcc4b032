-- A group's members hold nothing but what its key and its columns of arms hold, and the columns have the operand counts of the roots (01, "Scoped fusion").
-- Assumes nothing.
use Prim.Native.Nat.{ℕ, zero, suc}
use native.Mathlib.Omega.{arith}
use mathlib.Core.Path.{◌≡◌, sym, subst}
use mathlib.Core.Bool.{Bool, true, false, ◌&&◌}
use mathlib.Core.List.{List, [], ◌∷◌, ◌++◌}
use lib.ListN.{length}
use lib.Dec.{T}
use Rattle.spec_tree.specs.Tree.{Name, Tree, Forest, Sym, Const, Op, nil, ◌◂◌, operands}
use Rattle.spec_tree.specs.Kinds.{arity_ok, is_switch}
use Rattle.spec_tree.specs.Facts.{outer, outer_of, outer_first, all_outer}
use Rattle.spec_tree.proofs.Formed.{operand_count, well_formed, well_formed_each}
use Rattle.spec_tree.proofs.Logic.{and_left, and_right, and_both}
use Rattle.spec_rewrite.proofs.Counts.{well_formed_all, all_append}
use Rattle.spec_rewrite.proofs.Names.{holds, holds_each, holds_all}
use Rattle.spec_cse.specs.Extract.{among, distinct}
use Rattle.spec_cse.specs.Scope.{Switch, Group, switches, collect_switches, joins, place, groups_from, members, first_arms, rest_arms, columns, arms_of_members}
use Rattle.laws.proofs.cse.SwitchLaws.{Fair, AllLike, members_like, FairGroup, AllHold}
use Rattle.laws.proofs.cse.ScopeValue.{AllTrees}

-- ---- columns hold all that the arms hold

abbrev Long : ℕ → List (List Tree) → Type 0
Long n [] = Unit {0}
Long n (l ∷ ls) = (length l ≡ n) × Long n ls

rest_long : (n : ℕ) (ls : List (List Tree)) → Long (suc n) ls → Long n (rest_arms ls)
unfolding rest_arms
rest_long n [] h = tt
rest_long n ([] ∷ ls) h = let e = h.0 in absurd (omega arith)
rest_long n ((t ∷ ts) ∷ ls) h = ((let e = h.0 in omega arith), rest_long n ls h.1)

module _ (p : Name → Bool) where
  none_back : (ls : List (List Tree)) → Long 0 ls → AllHold p ls
  unfolding holds_all
  none_back [] h = tt
  none_back ([] ∷ ls) h = (tt, none_back ls h.1)
  none_back ((t ∷ ts) ∷ ls) h = let e = h.0 in absurd (omega arith)

  first_back : (n : ℕ) (ls : List (List Tree)) → Long (suc n) ls → T (holds_all p (first_arms ls)) → AllHold p (rest_arms ls) → AllHold p ls
  unfolding first_arms rest_arms holds_all
  first_back n [] h g k = tt
  first_back n ([] ∷ ls) h g k = let e = h.0 in absurd (omega arith)
  first_back n ((t ∷ ts) ∷ ls) h g k = (
    and_both (holds p t) (holds_all p ts) (and_left (holds p t) (holds_all p (first_arms ls)) g) k.0,
    first_back n ls h.1 (and_right (holds p t) (holds_all p (first_arms ls)) g) k.1,
  )

  columns_back : (n : ℕ) (ls : List (List Tree)) → Long n ls → AllHold p (columns n ls) → AllHold p ls
  unfolding columns
  columns_back zero ls h g = none_back ls h
  columns_back (suc n) ls h g = first_back n ls h g.0 (columns_back n (rest_arms ls) (rest_long n ls h) g.1)

  first_forth : (ls : List (List Tree)) → AllHold p ls → T (holds_all p (first_arms ls))
  unfolding first_arms holds_all
  first_forth [] h = tt
  first_forth ([] ∷ ls) h = first_forth ls h.1
  first_forth ((t ∷ ts) ∷ ls) h = and_both (holds p t) (holds_all p (first_arms ls)) (and_left (holds p t) (holds_all p ts) h.0) (first_forth ls h.1)

  rest_forth : (ls : List (List Tree)) → AllHold p ls → AllHold p (rest_arms ls)
  unfolding rest_arms holds_all
  rest_forth [] h = tt
  rest_forth ([] ∷ ls) h = (tt, rest_forth ls h.1)
  rest_forth ((t ∷ ts) ∷ ls) h = (and_right (holds p t) (holds_all p ts) h.0, rest_forth ls h.1)

  -- and no more
  pub columns_forth : (n : ℕ) (ls : List (List Tree)) → AllHold p ls → AllHold p (columns n ls)
  unfolding columns
  columns_forth zero ls h = tt
  columns_forth (suc n) ls h = (first_forth ls h, columns_forth n (rest_arms ls) (rest_forth ls h))

  -- ---- a switch has what its key and its arms have

  operands_back : (f : Forest) → T (holds_all p (operands f)) → T (holds_each p f)
  unfolding holds holds_all operands
  operands_back nil w = tt
  operands_back (t ◂ f) w = and_both (holds p t) (holds_each p f) (and_left (holds p t) (holds_all p (operands f)) w) (operands_back f (and_right (holds p t) (holds_all p (operands f)) w))

  switch_back : (s : Switch) → Fair (λ n. true) s → T (holds p s.key) → T (holds_all p s.arms) → T (holds p s.tree)
  switch_back s f g h =
      subst (λ (t : Tree). T (holds p t)) (sym f.is)
      (unfold holds in
      (and_both (holds p s.key) (holds_each p f.rest) g (operands_back f.rest (subst (λ (l : List Tree). T (holds_all p l)) (sym f.arms) h))))

  members_back : (a : Switch) (ms : List Switch) → AllLike (λ n. true) a ms → T (holds p a.key) → AllHold p (arms_of_members ms) → AllTrees p ms
  unfolding arms_of_members
  members_back a [] l g h = tt
  members_back a (s ∷ ms) l g h = (
    switch_back s l.0.fair (subst (λ (t : Tree). T (holds p t)) (sym l.0.key) g) h.0,
    members_back a ms l.1 g h.1,
  )

members_long : (a : Switch) (ms : List Switch) → AllLike (λ n. true) a ms → Long (length a.arms) (arms_of_members ms)
unfolding arms_of_members
members_long a [] l = tt
members_long a (s ∷ ms) l = (l.0.count, members_long a ms l.1)

-- the columns of arms of a group
abbrev pub group_columns : Group → List (List Tree)
group_columns g = columns (length g.first.arms) (arms_of_members (members g))

pub group_arms_back : (p : Name → Bool) (g : Group) → FairGroup (λ n. true) g → AllHold p (group_columns g) → AllHold p (arms_of_members (members g))
group_arms_back p g f h =
    columns_back p (length g.first.arms) (arms_of_members (members g)) (members_long g.first (members g) (members_like (λ n. true) g f)) h

pub group_back : (p : Name → Bool) (g : Group) → FairGroup (λ n. true) g → T (holds p g.first.key) → AllHold p (group_columns g) → AllTrees p (members g)
group_back p g f k h = members_back p g.first (members g) (members_like (λ n. true) g f) k (group_arms_back p g f h)

-- ---- operand counts

outer_part : (b : Bool) (x y : List Tree) → T (well_formed_all x) → T (well_formed_all y) → T (well_formed_all (elim b [ true ↦ x | false ↦ y ]))
outer_part true x y v w = v
outer_part false x y v w = w

mutual
  unfolding outer well_formed well_formed_all

  outer_formed : (t : Tree) → T (well_formed t) → T (well_formed_all (outer t))
  outer_formed (Sym n) w = tt
  outer_formed (Const c) w = tt
  outer_formed (Op k f) w =
      let v = and_right (arity_ok k (operand_count f)) (well_formed_each f) w in
      and_both (arity_ok k (operand_count f) && well_formed_each f) (well_formed_all (elim (is_switch k) [ true ↦ outer_first f | false ↦ outer_of f ])) w
      (outer_part (is_switch k) (outer_first f) (outer_of f) (outer_first_formed f v) (outer_of_formed f v))

  outer_of_formed : (f : Forest) → T (well_formed_each f) → T (well_formed_all (outer_of f))
  outer_of_formed nil w = tt
  outer_of_formed (t ◂ f) w =
      all_append (outer t) (outer_of f) (outer_formed t (and_left (well_formed t) (well_formed_each f) w)) (outer_of_formed f (and_right (well_formed t) (well_formed_each f) w))

  outer_first_formed : (f : Forest) → T (well_formed_each f) → T (well_formed_all (outer_first f))
  outer_first_formed nil w = tt
  outer_first_formed (t ◂ f) w = outer_formed t (and_left (well_formed t) (well_formed_each f) w)

all_outer_formed : (l : List Tree) → T (well_formed_all l) → T (well_formed_all (all_outer l))
unfolding well_formed_all all_outer
all_outer_formed [] w = tt
all_outer_formed (t ∷ l) w =
    all_append (outer t) (all_outer l) (outer_formed t (and_left (well_formed t) (well_formed_all l) w)) (all_outer_formed l (and_right (well_formed t) (well_formed_all l) w))

distinct_formed : (seen l : List Tree) → T (well_formed_all l) → T (well_formed_all (distinct seen l))
unfolding distinct well_formed_all
distinct_formed seen [] w = tt
distinct_formed seen (t ∷ l) w =
    go (among t seen) (distinct_formed seen l (and_right (well_formed t) (well_formed_all l) w)) (distinct_formed (t ∷ seen) l (and_right (well_formed t) (well_formed_all l) w))
  where
    go : (b : Bool) → T (well_formed_all (distinct seen l)) → T (well_formed_all (distinct (t ∷ seen) l)) → T (well_formed_all (elim b [ true ↦ distinct seen l | false ↦ t ∷ distinct (t ∷ seen) l ]))
    go true g h = g
    go false g h = and_both (well_formed t) (well_formed_all (distinct (t ∷ seen) l)) (and_left (well_formed t) (well_formed_all l) w) h

abbrev ArmsFormed : List Switch → Type 0
ArmsFormed [] = Unit {0}
ArmsFormed (s ∷ l) = T (well_formed_all s.arms) × ArmsFormed l

operands_formed : (f : Forest) → T (well_formed_each f) → T (well_formed_all (operands f))
unfolding well_formed well_formed_all operands
operands_formed nil w = tt
operands_formed (t ◂ f) w =
    and_both (well_formed t) (well_formed_all (operands f)) (and_left (well_formed t) (well_formed_each f) w) (operands_formed f (and_right (well_formed t) (well_formed_each f) w))

after_key : (k : ℕ) (q : Tree) (f : Forest) → T (well_formed (Op k (q ◂ f))) → T (well_formed_each f)
unfolding well_formed
after_key k q f w = and_right (well_formed q) (well_formed_each f) (and_right (arity_ok k (operand_count (q ◂ f))) (well_formed_each (q ◂ f)) w)

switches_formed : (l : List Tree) → T (well_formed_all l) → ArmsFormed (switches l)
unfolding well_formed_all switches
switches_formed [] w = tt
switches_formed (Sym n ∷ l) w = switches_formed l (and_right (well_formed (Sym n)) (well_formed_all l) w)
switches_formed (Const c ∷ l) w = switches_formed l (and_right (well_formed (Const c)) (well_formed_all l) w)
switches_formed (Op k nil ∷ l) w = switches_formed l (and_right (well_formed (Op k nil)) (well_formed_all l) w)
switches_formed (Op k (q ◂ f) ∷ l) w = go (is_switch k) (switches_formed l (and_right (well_formed (Op k (q ◂ f))) (well_formed_all l) w))
  where
    go : (b : Bool) → ArmsFormed (switches l)
        → ArmsFormed (elim b [ true ↦ record { tree = Op k (q ◂ f); kind = k; key = q; arms = operands f } ∷ switches l | false ↦ switches l ])
    go true h = (operands_formed f (after_key k q f (and_left (well_formed (Op k (q ◂ f))) (well_formed_all l) w)), h)
    go false h = h

abbrev GroupsFormed : List Group → Type 0
GroupsFormed [] = Unit {0}
GroupsFormed (g ∷ l) = ArmsFormed (members g) × GroupsFormed l

arms_append : (l : List Switch) (s : Switch) → ArmsFormed l → T (well_formed_all s.arms) → ArmsFormed (l ++ (s ∷ []))
arms_append [] s h w = (w, tt)
arms_append (a ∷ l) s h w = (h.0, arms_append l s h.1 w)

place_formed : (s : Switch) (gs : List Group) → T (well_formed_all s.arms) → GroupsFormed gs → GroupsFormed (place s gs)
unfolding place members
place_formed s [] w h = ((w, tt), tt)
place_formed s (g ∷ gs) w h = go (joins g.first s) (place_formed s gs w h.1)
  where
    go : (b : Bool) → GroupsFormed (place s gs) → GroupsFormed (elim b [ true ↦ record { first = g.first; others = g.others ++ (s ∷ []) } ∷ gs | false ↦ g ∷ place s gs ])
    go true q = ((h.0.0, arms_append g.others s h.0.1 w), h.1)
    go false q = (h.0, q)

from_formed : (gs : List Group) (l : List Switch) → GroupsFormed gs → ArmsFormed l → GroupsFormed (groups_from gs l)
unfolding groups_from
from_formed gs [] g h = g
from_formed gs (s ∷ l) g h = from_formed (place s gs) l (place_formed s gs h.0 g) h.1

-- ---- columns of such arms

abbrev pub AllFormed : List (List Tree) → Type 0
AllFormed [] = Unit {0}
AllFormed (l ∷ ls) = T (well_formed_all l) × AllFormed ls

first_formed : (ls : List (List Tree)) → AllFormed ls → T (well_formed_all (first_arms ls))
unfolding first_arms well_formed_all
first_formed [] h = tt
first_formed ([] ∷ ls) h = first_formed ls h.1
first_formed ((t ∷ ts) ∷ ls) h = and_both (well_formed t) (well_formed_all (first_arms ls)) (and_left (well_formed t) (well_formed_all ts) h.0) (first_formed ls h.1)

rest_formed : (ls : List (List Tree)) → AllFormed ls → AllFormed (rest_arms ls)
unfolding rest_arms well_formed_all
rest_formed [] h = tt
rest_formed ([] ∷ ls) h = (tt, rest_formed ls h.1)
rest_formed ((t ∷ ts) ∷ ls) h = (and_right (well_formed t) (well_formed_all ts) h.0, rest_formed ls h.1)

columns_formed : (n : ℕ) (ls : List (List Tree)) → AllFormed ls → AllFormed (columns n ls)
unfolding columns
columns_formed zero ls h = tt
columns_formed (suc n) ls h = (first_formed ls h, columns_formed n (rest_arms ls) (rest_formed ls h))

lists_formed : (ms : List Switch) → ArmsFormed ms → AllFormed (arms_of_members ms)
unfolding arms_of_members
lists_formed [] h = tt
lists_formed (s ∷ ms) h = (h.0, lists_formed ms h.1)

abbrev pub ColumnsFormed : List Group → Type 0
ColumnsFormed [] = Unit {0}
ColumnsFormed (g ∷ l) = AllFormed (group_columns g) × ColumnsFormed l

all_columns : (gs : List Group) → GroupsFormed gs → ColumnsFormed gs
all_columns [] h = tt
all_columns (g ∷ gs) h = (columns_formed (length g.first.arms) (arms_of_members (members g)) (lists_formed (members g) h.0), all_columns gs h.1)

pub groups_columns : (rs : List Tree) → T (well_formed_all rs) → ColumnsFormed (groups_from [] (collect_switches rs))
unfolding collect_switches
groups_columns rs w =
    all_columns (groups_from [] (switches (distinct [] (all_outer rs))))
    (from_formed [] (switches (distinct [] (all_outer rs))) tt (switches_formed (distinct [] (all_outer rs)) (distinct_formed [] (all_outer rs) (all_outer_formed rs w))))
