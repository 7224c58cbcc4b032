-- How many members and groups a scope has (01, "Scoped fusion"): each switch collected is a member of one group, and there are no more than nodes. Assumes nothing.
use Prim.Native.Nat.{ℕ, ◌≤◌}
use native.Mathlib.Omega.{arith}
use mathlib.Core.Path.{◌≡◌, refl, ◌∙◌, ap}
use mathlib.Core.Bool.{Bool, true, false}
use mathlib.Core.List.{List, [], ◌∷◌, map}
use lib.ListN.{length, length-append}
use Rattle.spec_tree.specs.Outcome.{Outcome, ok, refused}
use Rattle.spec_tree.specs.Tree.{Tree, Forest, Sym, Const, Op, nil, ◌◂◌}
use Rattle.spec_tree.specs.Kinds.{is_switch}
use Rattle.spec_tree.specs.Facts.{size, outer, outer_of, outer_first}
use Rattle.spec_tree.proofs.FactLaws.{size_one}
use Rattle.spec_rewrite.proofs.Measure.{sum_each, size_op}
use Rattle.spec_cse.specs.Scope.{collect_switches, members, Scoped}
use Rattle.laws.proofs.cse.Outcomes.{Good}
use Rattle.fusion.specs.Settled.{member_steps, Numbered, Walked, numbered_groups, group_steps, all_steps}
use Rattle.fusion.specs.Whole.{settled_roots, scope_groups}
use Rattle.fusion.proofs.Members.{steps_count}
use Rattle.fusion.proofs.Grouping.{group_of, groups_kept}
use Rattle.laws.proofs.cse.NumbersMost.{members_total, from_members}

-- ---- the steps of groups

pub none_total : members_total [] ≡ 0
unfolding members_total
none_total = refl

steps_total : (l : List Numbered) → length (all_steps l) ≡ members_total (map group_of l)
unfolding all_steps group_steps members_total
steps_total [] = refl
steps_total (g ∷ l) =
    let s = members g.group in
    omega (arith, length-append (member_steps g.start s) (all_steps l), steps_count g.start s, steps_total l)

-- as many as the switches collected
pub scope_steps :
    (scope : ℕ → List Tree → Outcome Scoped) (next : ℕ) (ds : List Tree) (n : ℕ) (ts : List Tree)
    → Good (λ (l : Walked). length (all_steps l.groups) ≡ length (collect_switches (settled_roots ds n ts))) (numbered_groups scope next (scope_groups ds n ts))
scope_steps scope next ds n ts =
    let all = collect_switches (settled_roots ds n ts) in
    weaker (λ (l : Walked). map group_of l.groups ≡ scope_groups ds n ts) (λ (l : Walked). length (all_steps l.groups) ≡ length all)
    (numbered_groups scope next (scope_groups ds n ts)) (groups_kept scope next (scope_groups ds n ts))
    (λ l e. steps_total l.groups ∙ (ap members_total e ∙ whole))
  where
    whole : members_total (scope_groups ds n ts) ≡ length (collect_switches (settled_roots ds n ts))
    whole = (unfold scope_groups in omega (arith, none_total, from_members [] (collect_switches (settled_roots ds n ts))))

    weaker : {A : Type 0} (P Q : A → Type 0) (o : Outcome A) → Good P o → ((a : A) → P a → Q a) → Good Q o
    weaker P Q (ok a) h f = (unfold Good in f a (unfold Good in h))
    weaker P Q (refused r) h f = (unfold Good in tt)

-- ---- no more switches than nodes

outer_node : (k : ℕ) (f : Forest) (b : Bool) → length (outer_first f) ≤ sum_each size f → length (outer_of f) ≤ sum_each size f
    → length {A = Tree} (elim b as (λ _. List Tree) [ true ↦ outer_first f | false ↦ outer_of f ]) ≤ sum_each size f
outer_node k f true p q = p
outer_node k f false p q = q

mutual
  unfolding outer sum_each

  pub outer_few : (t : Tree) → length (outer t) ≤ size t
  outer_few (Sym n) = omega (arith, size_one (Sym n))
  outer_few (Const c) = omega (arith, size_one (Const c))
  outer_few (Op k f) = omega (arith, size_op k f, outer_node k f (is_switch k) (outer_first_few f) (outer_of_few f))

  outer_of_few : (f : Forest) → length (outer_of f) ≤ sum_each size f
  outer_of_few nil = omega arith
  outer_of_few (t ◂ f) = omega (arith, length-append (outer t) (outer_of f), outer_few t, outer_of_few f)

  outer_first_few : (f : Forest) → length (outer_first f) ≤ sum_each size f
  outer_first_few nil = omega arith
  outer_first_few (t ◂ f) = omega (arith, outer_few t)
