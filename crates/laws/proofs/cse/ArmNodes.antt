-- How much the arms of a scope's switches hold: the switches outside arms have their arms in separate places, so all of them together are no larger than what
-- the scope holds for fusion; and one arm of each member of a group is part of that. Assumes nothing.
use Prim.Native.Nat.{ℕ, zero, suc, ◌+◌, ◌≤◌}
use mathlib.Core.Path.{◌≡◌, refl, ap}
use mathlib.Core.Bool.{Bool, true, false}
use mathlib.Core.List.{List, [], ◌∷◌, ◌++◌}
use native.Mathlib.Omega.{arith}
use lib.ListN.{length}
use lib.Dec.{T}
use Rattle.spec_tree.specs.Tree.{Tree, Forest, Sym, Const, Op, nil, ◌◂◌, folds, operands}
use Rattle.spec_tree.specs.Kinds.{is_switch}
use Rattle.spec_tree.specs.Facts.{total, size, outer, outer_of, outer_first, all_outer}
use Rattle.spec_tree.specs.Rows.{occurrences}
use Rattle.spec_rewrite.proofs.Measure.{sum_of, sum_append}
use Rattle.spec_cse.specs.Extract.{Binding, State, bound, roots, among, distinct}
use Rattle.spec_cse.specs.Scope.{Switch, Group, switches, collect_switches, joins, place, groups_from, members, first_arms, rest_arms, columns, arms_of_members, some_switch, holds_switch, held_bindings, held}
use Rattle.laws.proofs.cse.ReciprocalsCount.{AllTrees}
use Rattle.spec_tree.proofs.Lists.{occurrences_append}

unfoldable pub sizes_of : Forest → ℕ
unfolding size
sizes_of nil = 0
sizes_of (t ◂ f) = size t + sizes_of f

size_is : (k : ℕ) (f : Forest) → size (Op k f) ≡ suc (sizes_of f)
unfolding size sizes_of total
size_is k f = ap suc (same f)
  where
    same : (f : Forest) → total (folds (λ n. 1) (λ c. 1) (λ k sizes. suc (total sizes)) f) ≡ sizes_of f
    same nil = refl
    same (t ◂ f) = ap (λ (m : ℕ). size t + m) (same f)

-- ---- the nodes in arms of a tree's switches outside arms

unfoldable mutual
  unfolding sizes_of

  pub arm_nodes : Tree → ℕ
  arm_nodes (Sym n) = 0
  arm_nodes (Const c) = 0
  arm_nodes (Op k f) = elim (is_switch k) [ true ↦ arm_nodes_first f | false ↦ arm_nodes_each f ]

  pub arm_nodes_each : Forest → ℕ
  arm_nodes_each nil = 0
  arm_nodes_each (t ◂ f) = arm_nodes t + arm_nodes_each f

  pub arm_nodes_first : Forest → ℕ
  arm_nodes_first nil = 0
  arm_nodes_first (t ◂ f) = arm_nodes t + sizes_of f

mutual
  unfolding arm_nodes sizes_of

  pub arm_nodes_size : (t : Tree) → arm_nodes t ≤ size t
  arm_nodes_size (Sym n) = omega arith
  arm_nodes_size (Const c) = omega arith
  arm_nodes_size (Op k f) = go (is_switch k) (arm_nodes_each_size f) (arm_nodes_first_size f)
    where
      go : (b : Bool) → arm_nodes_each f ≤ sizes_of f → arm_nodes_first f ≤ sizes_of f → elim b as (λ _. ℕ) [ true ↦ arm_nodes_first f | false ↦ arm_nodes_each f ] ≤ size (Op k f)
      go true g h = (let q = size_is k f in omega arith)
      go false g h = (let q = size_is k f in omega arith)

  arm_nodes_each_size : (f : Forest) → arm_nodes_each f ≤ sizes_of f
  arm_nodes_each_size nil = omega arith
  arm_nodes_each_size (t ◂ f) = (let a = arm_nodes_size t in let b = arm_nodes_each_size f in omega arith)

  arm_nodes_first_size : (f : Forest) → arm_nodes_first f ≤ sizes_of f
  arm_nodes_first_size nil = omega arith
  arm_nodes_first_size (t ◂ f) = (let a = arm_nodes_size t in omega arith)

-- ---- the switches outside arms

unfoldable pub rest_sizes : Forest → ℕ
unfolding sizes_of
rest_sizes nil = 0
rest_sizes (q ◂ f) = sizes_of f

unfoldable pub arms_size : Tree → ℕ
unfolding rest_sizes
arms_size (Sym n) = 0
arms_size (Const c) = 0
arms_size (Op k f) = elim (is_switch k) [ true ↦ rest_sizes f | false ↦ 0 ]

mutual
  unfolding outer arm_nodes arms_size sum_of

  outer_arm_nodes : (t : Tree) → sum_of arms_size (outer t) ≤ arm_nodes t
  outer_arm_nodes (Sym n) = omega arith
  outer_arm_nodes (Const c) = omega arith
  outer_arm_nodes (Op k f) = go (is_switch k) (outer_of_arm_nodes f) (outer_first_arm_nodes f)
    where
      go : (b : Bool) → sum_of arms_size (outer_of f) ≤ arm_nodes_each f → rest_sizes f + sum_of arms_size (outer_first f) ≤ arm_nodes_first f
          → elim b as (λ _. ℕ) [ true ↦ rest_sizes f | false ↦ 0 ] + sum_of arms_size (elim b as (λ _. List Tree) [ true ↦ outer_first f | false ↦ outer_of f ])
          ≤ elim b as (λ _. ℕ) [ true ↦ arm_nodes_first f | false ↦ arm_nodes_each f ]
      go true g h = h
      go false g h = omega arith

  outer_first_arm_nodes : (f : Forest) → rest_sizes f + sum_of arms_size (outer_first f) ≤ arm_nodes_first f
  outer_first_arm_nodes nil = omega arith
  outer_first_arm_nodes (q ◂ f) = (let a = outer_arm_nodes q in omega arith)

  outer_of_arm_nodes : (f : Forest) → sum_of arms_size (outer_of f) ≤ arm_nodes_each f
  outer_of_arm_nodes nil = omega arith
  outer_of_arm_nodes (t ◂ f) = (let a = outer_arm_nodes t in let b = outer_of_arm_nodes f in let c = sum_append arms_size (outer t) (outer_of f) in omega arith)

all_outer_arm_nodes : (l : List Tree) → sum_of arms_size (all_outer l) ≤ sum_of arm_nodes l
unfolding all_outer sum_of
all_outer_arm_nodes [] = omega arith
all_outer_arm_nodes (t ∷ l) = (let a = outer_arm_nodes t in let b = all_outer_arm_nodes l in let c = sum_append arms_size (outer t) (all_outer l) in omega arith)

-- the arms of a tree's switches outside arms stand apart, so that they have no more nodes than the tree
outer_arms : (t : Tree) → sum_of arms_size (outer t) ≤ size t
outer_arms t = (let a = outer_arm_nodes t in let b = arm_nodes_size t in omega arith)

distinct_sum : (v : Tree → ℕ) (seen l : List Tree) → sum_of v (distinct seen l) ≤ sum_of v l
unfolding distinct sum_of
distinct_sum v seen [] = omega arith
distinct_sum v seen (t ∷ l) = go (among t seen) (distinct_sum v seen l) (distinct_sum v (t ∷ seen) l)
  where
    go : (b : Bool) → sum_of v (distinct seen l) ≤ sum_of v l → sum_of v (distinct (t ∷ seen) l) ≤ sum_of v l
        → sum_of v (elim b [ true ↦ distinct seen l | false ↦ t ∷ distinct (t ∷ seen) l ]) ≤ v t + sum_of v l
    go true g h = omega arith
    go false g h = (unfold sum_of in omega arith)

-- of some switches, the nodes in their arms
unfoldable pub arms_total : List Switch → ℕ
unfolding occurrences
arms_total [] = 0
arms_total (s ∷ l) = occurrences s.arms + arms_total l

operands_total : (f : Forest) → occurrences (operands f) ≡ sizes_of f
unfolding occurrences operands sizes_of
operands_total nil = refl
operands_total (t ◂ f) = ap (λ (m : ℕ). size t + m) (operands_total f)

switches_total : (l : List Tree) → arms_total (switches l) ≤ sum_of arms_size l
unfolding switches arms_total sum_of arms_size
switches_total [] = omega arith
switches_total (Sym n ∷ l) = (let a = switches_total l in omega arith)
switches_total (Const c ∷ l) = (let a = switches_total l in omega arith)
switches_total (Op k nil ∷ l) = (let a = switches_total l in omega arith)
switches_total (Op k (q ◂ f) ∷ l) = go (is_switch k) (switches_total l)
  where
    go : (b : Bool) → arms_total (switches l) ≤ sum_of arms_size l
        → arms_total (elim b [ true ↦ record { tree = Op k (q ◂ f); kind = k; key = q; arms = operands f } ∷ switches l | false ↦ switches l ])
        ≤ elim b as (λ _. ℕ) [ true ↦ sizes_of f | false ↦ 0 ] + sum_of arms_size l
    go true h = (let a = operands_total f in omega arith)
    go false h = omega arith

collected_outer : (rs : List Tree) → arms_total (collect_switches rs) ≤ sum_of arms_size (all_outer rs)
unfolding collect_switches
collected_outer rs = (let a = switches_total (distinct [] (all_outer rs)) in let b = distinct_sum arms_size [] (all_outer rs) in omega arith)

pub collected_total : (rs : List Tree) → arms_total (collect_switches rs) ≤ sum_of arm_nodes rs
collected_total rs = (let a = collected_outer rs in let b = all_outer_arm_nodes rs in omega arith)

-- ---- what a scope holds has all its switches outside arms, and so all their arms

no_switch_no_arms : (l : List Tree) → (T (some_switch (switches l)) → ⊥) → sum_of arms_size l ≤ 0
unfolding switches some_switch sum_of arms_size rest_sizes
no_switch_no_arms [] h = omega arith
no_switch_no_arms (Sym n ∷ l) h = (let a = no_switch_no_arms l h in omega arith)
no_switch_no_arms (Const c ∷ l) h = (let a = no_switch_no_arms l h in omega arith)
no_switch_no_arms (Op k nil ∷ l) h = go (is_switch k) (no_switch_no_arms l h)
  where
    go : (b : Bool) → sum_of arms_size l ≤ 0 → elim b as (λ _. ℕ) [ true ↦ 0 | false ↦ 0 ] + sum_of arms_size l ≤ 0
    go true g = omega arith
    go false g = omega arith
no_switch_no_arms (Op k (q ◂ f) ∷ l) h = go (is_switch k) h (λ g. no_switch_no_arms l g)
  where
    go : (b : Bool)
        → (T (some_switch (elim b as (λ _. List Switch) [ true ↦ record { tree = Op k (q ◂ f); kind = k; key = q; arms = operands f } ∷ switches l | false ↦ switches l ])) → ⊥)
        → ((T (some_switch (switches l)) → ⊥) → sum_of arms_size l ≤ 0) → elim b as (λ _. ℕ) [ true ↦ sizes_of f | false ↦ 0 ] + sum_of arms_size l ≤ 0
    go true h g = absurd (h tt)
    go false h g = (let a = g h in omega arith)

-- A weight of trees that is no more than a tree's nodes over its switches outside arms, and nothing where there is none: what the scope holds bounds its sum.
module _ (v : Tree → ℕ) (fits : (t : Tree) → sum_of v (outer t) ≤ size t) (none : (l : List Tree) → (T (some_switch (switches l)) → ⊥) → sum_of v l ≤ 0) where
  -- trees before others
  before_sum : (l r : List Tree) (N : ℕ) → sum_of v (all_outer r) ≤ N → sum_of v (all_outer (l ++ r)) ≤ occurrences l + N
  unfolding all_outer occurrences
  before_sum [] r N h = omega arith
  before_sum (t ∷ l) r N h = (let a = fits t in let b = before_sum l r N h in let c = sum_append v (outer t) (all_outer (l ++ r)) in omega arith)

  bindings_sum : (x : ℕ) (l : List Binding) → sum_of v (all_outer (bound l)) ≤ occurrences (held_bindings x l)
  unfolding held_bindings holds_switch bound all_outer occurrences sum_of
  bindings_sum x [] = omega arith
  bindings_sum zero (b ∷ l) = go (some_switch (switches (outer b.expr))) (none (outer b.expr)) (bindings_sum zero l)
    where
      go : (c : Bool) → ((T c → ⊥) → sum_of v (outer b.expr) ≤ 0) → sum_of v (all_outer (bound l)) ≤ occurrences (held_bindings zero l)
          → sum_of v (outer b.expr ++ all_outer (bound l)) ≤ occurrences (elim c [ true ↦ b.expr ∷ held_bindings zero l | false ↦ held_bindings zero l ])
      go true h g = (let a = fits b.expr in let c = sum_append v (outer b.expr) (all_outer (bound l)) in omega arith)
      go false h g = (let a = h (λ z. z) in let c = sum_append v (outer b.expr) (all_outer (bound l)) in omega arith)
  bindings_sum (suc x) (b ∷ l) =
      (let a = fits b.expr in
      let g = bindings_sum x l in
      let c = sum_append v (outer b.expr) (all_outer (bound l)) in
      omega arith)

  pub held_sum : (x : ℕ) (s : State) → sum_of v (distinct [] (all_outer (roots s))) ≤ occurrences (held x s)
  unfolding held
  held_sum x s =
      (let a = distinct_sum v [] (all_outer (roots s)) in
      let b : sum_of v (all_outer (roots s)) ≤ occurrences s.results + occurrences (held_bindings x s.lets) =
      (unfold roots in before_sum s.results (bound s.lets) (occurrences (held_bindings x s.lets)) (bindings_sum x s.lets)) in
      let c = occurrences_append s.results (held_bindings x s.lets) in
      omega arith)

held_total : (x : ℕ) (s : State) → arms_total (collect_switches (roots s)) ≤ occurrences (held x s)
unfolding collect_switches
held_total x s = (let a = switches_total (distinct [] (all_outer (roots s))) in let b = held_sum arms_size outer_arms no_switch_no_arms x s in omega arith)

-- ---- groups and columns: N bounds the arms of each group, and each arm has a property

module _ (P : Tree → Type 0) where
  abbrev pub AllArms : List Switch → Type 0
  AllArms [] = Unit {0}
  AllArms (s ∷ l) = AllTrees P s.arms × AllArms l

  abbrev pub Groups : List Group → Type 0
  Groups [] = Unit {0}
  Groups (g ∷ l) = AllArms (members g) × Groups l

  arms_append : (l : List Switch) (s : Switch) → AllArms l → AllTrees P s.arms → AllArms (l ++ (s ∷ []))
  arms_append [] s h p = (p, tt)
  arms_append (a ∷ l) s h p = (h.0, arms_append l s h.1 p)

  place_arms : (s : Switch) (gs : List Group) → AllTrees P s.arms → Groups gs → Groups (place s gs)
  unfolding place members
  place_arms s [] p h = ((p, tt), tt)
  place_arms s (g ∷ gs) p h = go (joins g.first s) (place_arms s gs p h.1)
    where
      go : (b : Bool) → Groups (place s gs) → Groups (elim b [ true ↦ record { first = g.first; others = g.others ++ (s ∷ []) } ∷ gs | false ↦ g ∷ place s gs ])
      go true q = ((h.0.0, arms_append g.others s h.0.1 p), h.1)
      go false q = (h.0, q)

  pub groups_arms : (gs : List Group) (l : List Switch) → Groups gs → AllArms l → Groups (groups_from gs l)
  unfolding groups_from
  groups_arms gs [] g h = g
  groups_arms gs (s ∷ l) g h = groups_arms (place s gs) l (place_arms s gs h.0 g) h.1

unfoldable pub groups_total : List Group → ℕ
unfolding members arms_total
groups_total [] = 0
groups_total (g ∷ l) = arms_total (members g) + groups_total l

total_append : (l : List Switch) (s : Switch) → arms_total (l ++ (s ∷ [])) ≡ arms_total l + occurrences s.arms
unfolding arms_total
total_append [] s = omega arith
total_append (a ∷ l) s = (let q = total_append l s in omega arith)

place_total : (s : Switch) (gs : List Group) → groups_total (place s gs) ≡ occurrences s.arms + groups_total gs
unfolding place members groups_total arms_total
place_total s [] = omega arith
place_total s (g ∷ gs) = go (joins g.first s) (place_total s gs)
  where
    go : (b : Bool) → groups_total (place s gs) ≡ occurrences s.arms + groups_total gs
        → groups_total (elim b [ true ↦ record { first = g.first; others = g.others ++ (s ∷ []) } ∷ gs | false ↦ g ∷ place s gs ])
        ≡ occurrences s.arms + (occurrences g.first.arms + arms_total g.others + groups_total gs)
    go true h = (let q = total_append g.others s in omega arith)
    go false h = omega arith

from_total : (gs : List Group) (l : List Switch) → groups_total (groups_from gs l) ≡ groups_total gs + arms_total l
unfolding groups_from arms_total
from_total gs [] = omega arith
from_total gs (s ∷ l) = (let a = from_total (place s gs) l in let b = place_total s gs in omega arith)

abbrev pub SmallGroups : ℕ → List Group → Type 0
SmallGroups N [] = Unit {0}
SmallGroups N (g ∷ l) = (arms_total (members g) ≤ N) × SmallGroups N l

groups_small : (N : ℕ) (gs : List Group) → groups_total gs ≤ N → SmallGroups N gs
unfolding groups_total
groups_small N [] h = tt
groups_small N (g ∷ gs) h = (omega arith, groups_small N gs (omega arith))

pub collected_small : (N : ℕ) (rs : List Tree) → sum_of arm_nodes rs ≤ N → SmallGroups N (groups_from [] (collect_switches rs))
collected_small N rs h =
    groups_small N (groups_from [] (collect_switches rs))
    (let a = from_total [] (collect_switches rs) in let b = collected_total rs in let c : groups_total [] ≡ 0 = (unfold groups_total in refl) in omega arith)

-- the arms of all groups together are no larger than what the scope holds
pub held_groups : (x : ℕ) (s : State) → groups_total (groups_from [] (collect_switches (roots s))) ≤ occurrences (held x s)
held_groups x s = (let a = from_total [] (collect_switches (roots s)) in let b = held_total x s in let c : groups_total [] ≡ 0 = (unfold groups_total in refl) in omega arith)

-- and so are those of each
pub held_small : (N x : ℕ) (s : State) → occurrences (held x s) ≤ N → SmallGroups N (groups_from [] (collect_switches (roots s)))
held_small N x s h = groups_small N (groups_from [] (collect_switches (roots s))) (let a = held_groups x s in omega arith)

-- and whatever they are, there is a number that is large enough
pub some_small : (rs : List Tree) → SmallGroups (arms_total (collect_switches rs)) (groups_from [] (collect_switches rs))
some_small rs =
    groups_small (arms_total (collect_switches rs)) (groups_from [] (collect_switches rs))
    (let a = from_total [] (collect_switches rs) in let c : groups_total [] ≡ 0 = (unfold groups_total in refl) in omega arith)

-- what an arm's scope is given: trees with a property, at most N nodes, and not nothing
abbrev pub Given : (Tree → Type 0) → ℕ → List Tree → Type 0
Given P N l = AllTrees P l × (occurrences l ≤ N) × (1 ≤ length l)

-- of some lists together
unfoldable pub lists_total : List (List Tree) → ℕ
unfolding occurrences
lists_total [] = 0
lists_total (l ∷ ls) = occurrences l + lists_total ls

module _ (P : Tree → Type 0) (N : ℕ) where
  abbrev pub Columns : List (List Tree) → Type 0
  Columns [] = Unit {0}
  Columns (l ∷ ls) = Given P N l × Columns ls

  abbrev AllLists : List (List Tree) → Type 0
  AllLists [] = Unit {0}
  AllLists (l ∷ ls) = AllTrees P l × AllLists ls

  first_column : (ls : List (List Tree)) → AllLists ls → AllTrees P (first_arms ls) × (occurrences (first_arms ls) ≤ lists_total ls)
  unfolding first_arms occurrences lists_total
  first_column [] h = (tt, omega arith)
  first_column ([] ∷ ls) h = (let q = first_column ls h.1 in (q.0, (let a = q.1 in omega arith)))
  first_column ((t ∷ ts) ∷ ls) h = (let q = first_column ls h.1 in ((h.0.0, q.0), (let a = q.1 in omega arith)))

  rest_columns : (ls : List (List Tree)) → AllLists ls → AllLists (rest_arms ls) × (lists_total (rest_arms ls) ≤ lists_total ls)
  unfolding rest_arms occurrences lists_total
  rest_columns [] h = (tt, omega arith)
  rest_columns ([] ∷ ls) h = (let q = rest_columns ls h.1 in ((tt, q.0), (let a = q.1 in omega arith)))
  rest_columns ((t ∷ ts) ∷ ls) h = (let q = rest_columns ls h.1 in ((h.0.1, q.0), (let a = q.1 in omega arith)))

  -- as many columns as the first list is long, so that none is empty
  columns_all : (ts : List Tree) (ls : List (List Tree)) → AllLists (ts ∷ ls) → lists_total (ts ∷ ls) ≤ N → Columns (columns (length ts) (ts ∷ ls))
  unfolding columns
  columns_all [] ls h g = tt
  columns_all (t ∷ ts) ls h g =
      let a = first_column ((t ∷ ts) ∷ ls) h in
      let b = rest_columns ((t ∷ ts) ∷ ls) h in
      ((a.0, (let c = a.1 in omega arith), (unfold first_arms in omega arith)), (unfold rest_arms in columns_all ts (rest_arms ls) b.0 (let c = b.1 in omega arith)))

  of_members : (l : List Switch) → AllArms P l → AllLists (arms_of_members l) × (lists_total (arms_of_members l) ≡ arms_total l)
  unfolding arms_of_members lists_total arms_total
  of_members [] h = (tt, refl)
  of_members (s ∷ l) h = (let q = of_members l h.1 in ((h.0, q.0), ap (λ (m : ℕ). occurrences s.arms + m) q.1))

  pub group_columns : (g : Group) → AllArms P (members g) → arms_total (members g) ≤ N → Columns (columns (length g.first.arms) (arms_of_members (members g)))
  unfolding members arms_of_members
  group_columns g h m =
      let q = of_members (members g) h in
      columns_all g.first.arms (arms_of_members g.others) q.0 (let a = q.1 in omega arith)
