-- How many numbers a scope takes. Its rounds and its reciprocals take no more together than its input has operations, its matches no more than it holds
-- occurrences, and the inputs of its arms' scopes are together no larger than what it holds. Assumes nothing.
use Prim.Native.Nat.{ℕ, zero, suc, ◌+◌, ◌*◌, ◌≤◌}
use mathlib.Core.Path.{◌≡◌, refl, sym, ap, subst}
use mathlib.Core.Bool.{Bool, true, false}
use mathlib.Core.List.{List, [], ◌∷◌, ◌++◌}
use native.Mathlib.Omega.{arith}
use lib.ListN.{length}
use lib.IntN.{ℤ}
use lib.Dec.{T}
use Rattle.spec_tree.specs.Outcome.{Outcome, ok}
use Rattle.spec_tree.specs.Tree.{Name, Tree, Forest, Sym, Const, Op, nil, ◌◂◌, operands}
use Rattle.spec_tree.specs.Kinds.{is_switch}
use Rattle.spec_tree.specs.Facts.{operations, all_operations, size, outer, outer_of, outer_first, all_outer}
use Rattle.spec_tree.specs.Rows.{occurrences}
use Rattle.spec_rewrite.proofs.Measure.{sum_of, sum_append, sum_each, sizes, size_op, forest_operations, operations_op, operations_const}
use Rattle.spec_rewrite.proofs.Counts.{well_formed_all}
use Rattle.spec_rewrite.proofs.Names.{holds_all}
use Rattle.spec_cse.specs.Extract.{State, roots, distinct, extract_all, bind_reciprocal, bind_reciprocals, reciprocals}
use Rattle.spec_cse.specs.Order.{topo_sort_intermediates}
use Rattle.spec_cse.specs.Scope.{Switch, Group, Work, Scoped, Armed, switches, collect_switches, joins, place, groups_from, members, name_members, first_arms, rest_arms, columns, arms_of_members, scope_arms, fuse_group, fuse_groups, fuse_all, unfused, finish, some_switch, held, left_after, opens, cse_scope}
use Rattle.laws.proofs.cse.Outcomes.{Good, then_good, any_good, good_ok}
use Rattle.laws.proofs.cse.RoundsGood.{extract_all_good}
use Rattle.laws.proofs.cse.RoundsCount.{made_before, extracted, begin, extract_all_end}
use Rattle.laws.proofs.cse.ReciprocalsCount.{bound_divisors, reciprocals_are}
use Rattle.laws.proofs.cse.DivisorsMost.{bound_most}
use Rattle.laws.proofs.cse.ScopeValue.{one_named}
use Rattle.laws.proofs.cse.ArmNodes.{arms_total, lists_total, held_sum}
use Rattle.laws.proofs.cse.HeldRows.{reciprocals_lets}
use Rattle.laws.proofs.cse.ScopeRoom.{or_no_room, or_not_held}

-- ---- rounds and reciprocals

symbol_operations : (n : Name) → operations (Sym n) ≡ 0
unfolding operations
symbol_operations n = refl

mutual
  unfolding sum_each

  operations_size : (t : Tree) → operations t ≤ size t
  operations_size (Sym n) = (let a = symbol_operations n in omega arith)
  operations_size (Const c) = (let a = operations_const c in omega arith)
  operations_size (Op k f) = (let a = operations_op k f in let b = size_op k f in let c = operations_sizes f in omega arith)

  operations_sizes : (f : Forest) → forest_operations f ≤ sizes f
  operations_sizes nil = omega arith
  operations_sizes (t ◂ f) = (let a = operations_size t in let b = operations_sizes f in omega arith)

operations_most : (l : List Tree) → all_operations l ≤ occurrences l
unfolding all_operations occurrences
operations_most [] = omega arith
operations_most (t ∷ l) = (let a = operations_size t in let b = operations_most l in omega arith)

numbered_each : (ds : List Tree) (s : State) → (bind_reciprocals ds s).next ≡ length ds + s.next
unfolding bind_reciprocals bind_reciprocal
numbered_each [] s = omega arith
numbered_each (d ∷ ds) s = (let a = numbered_each ds (bind_reciprocal d s) in omega arith)

pub reciprocals_next : (scoped : Bool) (s : State) → (reciprocals scoped s).next ≡ length (bound_divisors scoped s) + s.next
reciprocals_next scoped s = subst (λ (t : State). t.next ≡ length (bound_divisors scoped s) + s.next) (sym (reciprocals_are scoped s)) (numbered_each (bound_divisors scoped s) s)

-- from a well-formed list without `__xN`, N from the first number on
pub opened_next :
    (scoped : Bool) (next : ℕ) (es : List Tree) → T (well_formed_all es) → T (holds_all (made_before next) es) → (s : State) → extract_all scoped next es ≡ ok s
    → (reciprocals scoped s).next ≤ next + occurrences es
opened_next scoped next es w h s e =
    (let a = extract_all_end scoped next es w h s e in
    let b = a.2 in
    let c = a.3 in
    let d = bound_most scoped s in
    let g = reciprocals_next scoped s in
    let i = operations_most es in
    omega arith)

-- and it has no more bindings than its input has nodes
pub opened_lets :
    (scoped : Bool) (next : ℕ) (es : List Tree) → T (well_formed_all es) → T (holds_all (made_before next) es) → (s : State) → extract_all scoped next es ≡ ok s
    → length (reciprocals scoped s).lets ≤ occurrences es
opened_lets scoped next es w h s e =
    (let a = extract_all_end scoped next es w h s e in
    let b = a.2 in
    let d = bound_most scoped s in
    let g = reciprocals_lets scoped s in
    let i = operations_most es in
    omega arith)

-- ---- members of groups

one : Tree → ℕ
one (Sym n) = 0
one (Const c) = 0
one (Op k nil) = 0
one (Op k (q ◂ f)) = elim (is_switch k) [ true ↦ 1 | false ↦ 0 ]

switches_count : (l : List Tree) → length (switches l) ≡ sum_of one l
unfolding switches sum_of one
switches_count [] = refl
switches_count (Sym n ∷ l) = (let a = switches_count l in omega arith)
switches_count (Const c ∷ l) = (let a = switches_count l in omega arith)
switches_count (Op k nil ∷ l) = (let a = switches_count l in omega arith)
switches_count (Op k (q ◂ f) ∷ l) = go (is_switch k) (switches_count l)
  where
    go : (b : Bool) → length (switches l) ≡ sum_of one l
        → length {A = Switch} (elim b [ true ↦ record { tree = Op k (q ◂ f); kind = k; key = q; arms = operands f } ∷ switches l | false ↦ switches l ])
        ≡ elim b as (λ _. ℕ) [ true ↦ 1 | false ↦ 0 ] + sum_of one l
    go true h = omega arith
    go false h = omega arith

none_at_all : (l : List Switch) → (T (some_switch l) → ⊥) → length l ≤ 0
unfolding some_switch
none_at_all [] h = omega arith
none_at_all (s ∷ l) h = absurd (h tt)

none_counted : (l : List Tree) → (T (some_switch (switches l)) → ⊥) → sum_of one l ≤ 0
none_counted l h = (let a = switches_count l in let b = none_at_all (switches l) h in omega arith)

symbol_one : (n : Name) → one (Sym n) ≡ 0
unfolding one
symbol_one n = refl

constant_one : (c : ℤ) → one (Const c) ≡ 0
unfolding one
constant_one c = refl

one_most : (k : ℕ) (f : Forest) → one (Op k f) ≤ 1
unfolding one
one_most k nil = omega arith
one_most k (q ◂ f) = go (is_switch k)
  where
    go : (b : Bool) → elim b as (λ _. ℕ) [ true ↦ 1 | false ↦ 0 ] ≤ 1
    go true = omega arith
    go false = omega arith

mutual
  unfolding outer sum_of sum_each

  outer_counted : (t : Tree) → sum_of one (outer t) ≤ size t
  outer_counted (Sym n) = (let a = symbol_one n in omega arith)
  outer_counted (Const c) = (let a = constant_one c in omega arith)
  outer_counted (Op k f) = go (is_switch k) (outer_of_counted f) (outer_first_counted f)
    where
      go : (b : Bool) → sum_of one (outer_of f) ≤ sizes f → sum_of one (outer_first f) ≤ sizes f
          → one (Op k f) + sum_of one (elim b as (λ _. List Tree) [ true ↦ outer_first f | false ↦ outer_of f ]) ≤ size (Op k f)
      go true g h = (let a = one_most k f in let b = size_op k f in omega arith)
      go false g h = (let a = one_most k f in let b = size_op k f in omega arith)

  outer_of_counted : (f : Forest) → sum_of one (outer_of f) ≤ sizes f
  outer_of_counted nil = omega arith
  outer_of_counted (t ◂ f) = (let a = outer_counted t in let b = outer_of_counted f in let c = sum_append one (outer t) (outer_of f) in omega arith)

  outer_first_counted : (f : Forest) → sum_of one (outer_first f) ≤ sizes f
  outer_first_counted nil = omega arith
  outer_first_counted (t ◂ f) = (let a = outer_counted t in omega arith)

unfoldable pub members_total : List Group → ℕ
unfolding members
members_total [] = 0
members_total (g ∷ l) = length (members g) + members_total l

append_length : (l : List Switch) (s : Switch) → length (l ++ (s ∷ [])) ≡ suc (length l)
append_length [] s = omega arith
append_length (a ∷ l) s = (let q = append_length l s in omega arith)

pub place_members : (s : Switch) (gs : List Group) → members_total (place s gs) ≡ suc (members_total gs)
unfolding place members members_total
place_members s [] = omega arith
place_members s (g ∷ gs) = go (joins g.first s) (place_members s gs)
  where
    go : (b : Bool) → members_total (place s gs) ≡ suc (members_total gs)
        → members_total (elim b [ true ↦ record { first = g.first; others = g.others ++ (s ∷ []) } ∷ gs | false ↦ g ∷ place s gs ])
        ≡ suc (suc (length g.others) + members_total gs)
    go true h = (let q = append_length g.others s in omega arith)
    go false h = omega arith

pub from_members : (gs : List Group) (l : List Switch) → members_total (groups_from gs l) ≡ members_total gs + length l
unfolding groups_from
from_members gs [] = omega arith
from_members gs (s ∷ l) = (let a = from_members (place s gs) l in let b = place_members s gs in omega arith)

-- no more than the scope holds
pub held_switches : (x : ℕ) (s : State) → length (collect_switches (roots s)) ≤ occurrences (held x s)
unfolding collect_switches
held_switches x s =
    (let b = switches_count (distinct [] (all_outer (roots s))) in
    let c = held_sum one outer_counted none_counted x s in
    omega arith)

pub held_members : (x : ℕ) (s : State) → members_total (groups_from [] (collect_switches (roots s))) ≤ occurrences (held x s)
held_members x s =
    (let a = from_members [] (collect_switches (roots s)) in
    let b = held_switches x s in
    let d : members_total [] ≡ 0 = (unfold members_total in refl) in
    omega arith)

-- and each group has a member
pub groups_members : (gs : List Group) → length gs ≤ members_total gs
unfolding members_total members
groups_members [] = omega arith
groups_members (g ∷ gs) = (let a = groups_members gs in omega arith)

pub held_matches : (x : ℕ) (s : State) → length (groups_from [] (collect_switches (roots s))) ≤ occurrences (held x s)
held_matches x s = (let a = groups_members (groups_from [] (collect_switches (roots s))) in let b = held_members x s in omega arith)

-- each takes one
pub name_members_next : (ms : List Switch) (w : Work) → (name_members ms w).next ≡ length ms + w.next
unfolding name_members
name_members_next [] w = omega arith
name_members_next (s ∷ ms) w =
    let q = name_members_next ms (one_named s w) in
    omega arith

-- ---- arms

column_split : (ls : List (List Tree)) → occurrences (first_arms ls) + lists_total (rest_arms ls) ≡ lists_total ls
unfolding first_arms rest_arms occurrences lists_total
column_split [] = refl
column_split ([] ∷ ls) = (let a = column_split ls in omega arith)
column_split ((t ∷ ts) ∷ ls) = (let a = column_split ls in omega arith)

columns_total : (k : ℕ) (ls : List (List Tree)) → lists_total (columns k ls) ≤ lists_total ls
unfolding columns lists_total
columns_total zero ls = omega arith
columns_total (suc k) ls = (let a = column_split ls in let b = columns_total k (rest_arms ls) in omega arith)

arms_lists : (l : List Switch) → lists_total (arms_of_members l) ≡ arms_total l
unfolding arms_of_members lists_total arms_total
arms_lists [] = refl
arms_lists (s ∷ l) = ap (λ (m : ℕ). occurrences s.arms + m) (arms_lists l)

pub group_total : (k : ℕ) (g : Group) → lists_total (columns k (arms_of_members (members g))) ≤ arms_total (members g)
group_total k g = (let a = columns_total k (arms_of_members (members g)) in let b = arms_lists (members g) in omega arith)

-- ---- the numbers of a scope where D can be open, twice its input for each of them

unfoldable pub numbers_most : ℕ → ℕ → ℕ
numbers_most zero n = 0
numbers_most (suc m) n = 2 * n + numbers_most m n

pub most_add : (D a b : ℕ) → numbers_most D (a + b) ≡ numbers_most D a + numbers_most D b
unfolding numbers_most
most_add zero a b = omega arith
most_add (suc m) a b = (let q = most_add m a b in omega arith)

pub most_up : (D a b : ℕ) → a ≤ b → numbers_most D a ≤ numbers_most D b
unfolding numbers_most
most_up zero a b h = omega arith
most_up (suc m) a b h = (let q = most_up m a b h in omega arith)

-- ---- numbers never go down

pub extract_all_later : (scoped : Bool) (next : ℕ) (es : List Tree) → Good (λ (s : State). next ≤ s.next) (extract_all scoped next es)
extract_all_later scoped next es =
    extract_all_good scoped (λ u. next ≤ u.next) (λ x s t c e h. (let q = (extracted x s t e).next in omega arith)) next es (unfold begin in omega arith)

abbrev pub WorkLater : ℕ → Work → Type 0
WorkLater low w = low ≤ w.next

abbrev pub ScopeLater : ℕ → Scoped → Type 0
ScopeLater low a = low ≤ a.next

abbrev ArmsLater : ℕ → Armed → Type 0
ArmsLater low a = low ≤ a.next

module _ (scope : ℕ → List Tree → Outcome Scoped) (later : (n : ℕ) (l : List Tree) → Good (ScopeLater n) (scope n l)) where
  arms_later : (low next : ℕ) → low ≤ next → (ls : List (List Tree)) → Good (ArmsLater low) (scope_arms scope next ls)
  unfolding scope_arms
  arms_later low next h [] = good_ok (ArmsLater low) _ h
  arms_later low next h (es ∷ ls) =
      then_good (ScopeLater next) (ArmsLater low) (scope next es) (later next es) _
      (λ a g. then_good (ArmsLater low) (ArmsLater low) (scope_arms scope a.next ls) (arms_later low a.next (omega arith) ls) _ (λ r k. good_ok (ArmsLater low) _ k))

  pub group_later : (low : ℕ) (g : Group) (w : Work) → low ≤ w.next → Good (WorkLater low) (fuse_group scope g w)
  unfolding fuse_group
  group_later low g w h =
      let v = name_members (members g) w in
      let q = name_members_next (members g) w in
      then_good (ArmsLater low) (WorkLater low) (scope_arms scope v.next (columns (length g.first.arms) (arms_of_members (members g))))
      (arms_later low v.next (omega arith) (columns (length g.first.arms) (arms_of_members (members g)))) _ (λ a k. good_ok (WorkLater low) _ k)

  groups_later : (low : ℕ) (gs : List Group) (w : Work) → low ≤ w.next → Good (WorkLater low) (fuse_groups scope gs w)
  unfolding fuse_groups
  groups_later low [] w h = good_ok (WorkLater low) w h
  groups_later low (g ∷ gs) w h = then_good (WorkLater low) (WorkLater low) (fuse_group scope g w) (group_later low g w h) _ (λ v k. groups_later low gs v k)

finish_later : (low : ℕ) (w : Work) → low ≤ w.next → Good (ScopeLater low) (finish w)
unfolding finish
finish_later low w h = any_good (ScopeLater low) (topo_sort_intermediates w.inters) _ (λ l. good_ok (ScopeLater low) _ h)

pub scope_later : (fuel left next : ℕ) (es : List Tree) → Good (ScopeLater next) (cse_scope fuel left true next es)
unfolding cse_scope
scope_later zero left next es = (unfold Good in tt)
scope_later (suc fuel) left next es =
    let inner : State → ℕ → List Tree → Outcome Scoped = λ s n l. cse_scope fuel (left_after left (length s.lets) (reciprocals true s)) true n l in
    or_no_room (Good (ScopeLater next)) (unfold Good in tt) (opens left next es) _
    (then_good (λ (s : State). next ≤ s.next) (ScopeLater next) (extract_all true next es) (extract_all_later true next es) _
    (λ s h. let q = reciprocals_next true s in
    or_not_held (Good (ScopeLater next)) (unfold Good in tt) (inner s) left (length s.lets) (reciprocals true s)
    (then_good (WorkLater next) (ScopeLater next) (fuse_all (inner s) (length s.lets) (reciprocals true s))
    (unfold fuse_all unfused in groups_later (inner s) (λ n l. scope_later fuel _ n l) next (groups_from [] (collect_switches (roots (reciprocals true s)))) (unfused (length s.lets) (reciprocals true s)) (omega arith)) _
    (λ w k. finish_later next w k))))
