-- Fusion leaves a tree without switches as it is (specs, Switchless): its steps look for switches alone (01, "Scoped fusion"). Assumes nothing.
use Prim.Native.Nat.{ℕ, suc, ◌+◌}
use mathlib.Core.Path.{◌≡◌, refl, sym, ◌∙◌, ap, ap₂, subst}
use mathlib.Core.Bool.{Bool, true, false, not}
use mathlib.Core.List.{List, [], ◌∷◌, ◌++◌, map}
use lib.ListN.{length}
use lib.Dec.{T}
use Rattle.spec_tree.specs.Outcome.{Outcome, ok, ◌>>=◌}
use Rattle.spec_tree.specs.Tree.{Name, mname, Tree, Forest, Sym, Const, Op, nil, ◌◂◌, eq_tree}
use Rattle.spec_tree.specs.Kinds.{is_switch}
use Rattle.spec_tree.proofs.Logic.{and_left, and_right, not_so}
use Rattle.spec_tree.proofs.TreeLaws.{eq_tree_sound}
use Rattle.spec_rewrite.specs.Rewrite.{replace_outside_arms, replace_operands, replace_key}
use Rattle.spec_cse.specs.Scope.{Switch, Group, collect_switches, groups_from, members, Scoped, scope_arms}
use Rattle.laws.proofs.cse.Outcomes.{Good, good_ok, then_good, any_good}
use Rattle.laws.proofs.cse.Symbols.{holds_all_by}
use Rattle.laws.proofs.cse.SwitchLaws.{Fair, FairGroups, AllLike, members_like, groups_fair}
use Rattle.fusion.specs.Settled.{Step, fused_tree, member_steps, group_columns, Walked, numbered_groups, group_steps, all_steps}
use Rattle.fusion.specs.Whole.{settled_roots, scope_groups}
use Rattle.fusion.specs.Switchless.{switch_node, switchless, switchless_each, all_switchless}

-- ---- one step

module _ (m : Tree) (n : Name) (switch : T (switch_node m)) where
  -- no switch is not the member
  differs : (t : Tree) → T (not (switch_node t)) → T (eq_tree t m) → ⊥
  differs t h e = not_so (switch_node t) h (subst (λ (u : Tree). T (switch_node u)) (sym (eq_tree_sound t m e)) switch)

  leaf_same : (t : Tree) (b : Bool) → (T b → ⊥) → ◌≡◌ {A = Tree} (elim b [ true ↦ Sym n | false ↦ t ]) t
  leaf_same t true h = absurd (h tt)
  leaf_same t false h = refl

  node_same :
      (k : ℕ) (f : Forest) (b s : Bool) → (T b → ⊥) → replace_key m n f ≡ f → replace_operands m n f ≡ f
      → ◌≡◌ {A = Tree} (elim b [ true ↦ Sym n | false ↦ Op k (elim s [ true ↦ replace_key m n f | false ↦ replace_operands m n f ]) ]) (Op k f)
  node_same k f true s h p q = absurd (h tt)
  node_same k f false true h p q = ap (Op k) p
  node_same k f false false h p q = ap (Op k) q

  mutual
    unfolding switchless replace_outside_arms

    pub step_same : (t : Tree) → T (switchless t) → replace_outside_arms m n t ≡ t
    step_same (Sym s) h = leaf_same (Sym s) (eq_tree (Sym s) m) (differs (Sym s) tt)
    step_same (Const c) h = leaf_same (Const c) (eq_tree (Const c) m) (differs (Const c) tt)
    step_same (Op k f) h =
        let g = and_right (not (switch_node (Op k f))) (switchless_each f) h in
        node_same k f (eq_tree (Op k f) m) (is_switch k) (differs (Op k f) (and_left (not (switch_node (Op k f))) (switchless_each f) h)) (key_same f g) (operands_same f g)

    operands_same : (f : Forest) → T (switchless_each f) → replace_operands m n f ≡ f
    operands_same nil h = refl
    operands_same (t ◂ f) h = ap₂ ◌◂◌ (step_same t (and_left (switchless t) (switchless_each f) h)) (operands_same f (and_right (switchless t) (switchless_each f) h))

    key_same : (f : Forest) → T (switchless_each f) → replace_key m n f ≡ f
    key_same nil h = refl
    key_same (t ◂ f) h = ap (λ (u : Tree). u ◂ f) (step_same t (and_left (switchless t) (switchless_each f) h))

-- ---- all steps

-- each step's member is a switch
abbrev pub OfSwitches : List Step → Type 0
OfSwitches [] = Unit {0}
OfSwitches (s ∷ l) = T (switch_node s.member) × OfSwitches l

pub fused_same : (steps : List Step) (t : Tree) → OfSwitches steps → T (switchless t) → fused_tree steps t ≡ t
unfolding fused_tree
fused_same [] t o h = refl
fused_same (s ∷ l) t o h = ap (fused_tree l) (step_same s.member (mname s.number) o.0 t h) ∙ fused_same l t o.1 h

pub all_fused_same : (steps : List Step) (l : List Tree) → OfSwitches steps → T (all_switchless l) → map (fused_tree steps) l ≡ l
unfolding all_switchless
all_fused_same steps [] o h = refl
all_fused_same steps (t ∷ l) o h =
    ap₂ ◌∷◌ (fused_same steps t o (and_left (switchless t) (all_switchless l) h)) (all_fused_same steps l o (and_right (switchless t) (all_switchless l) h))

-- ---- the members of the groups of a scope are switches

of_append : (a b : List Step) → OfSwitches a → OfSwitches b → OfSwitches (a ++ b)
of_append [] b h g = g
of_append (s ∷ a) b h g = (h.0, of_append a b h.1 g)

module _ (p : Name → Bool) where
  fair_switch : (s : Switch) → Fair p s → T (switch_node s.tree)
  unfolding switch_node
  fair_switch s f = subst (λ (t : Tree). T (switch_node t)) (sym f.is) f.switch

  members_switches : (a : Switch) (n : ℕ) (l : List Switch) → AllLike p a l → OfSwitches (member_steps n l)
  unfolding member_steps
  members_switches a n [] h = tt
  members_switches a n (s ∷ l) h = (fair_switch s h.0.fair, members_switches a (suc n) l h.1)

  pub numbered_switches :
      (scope : ℕ → List Tree → Outcome Scoped) (next : ℕ) (gs : List Group) → FairGroups p gs
      → Good (λ (l : Walked). OfSwitches (all_steps l.groups)) (numbered_groups scope next gs)
  unfolding numbered_groups all_steps group_steps
  numbered_switches scope next [] h = good_ok (λ (l : Walked). OfSwitches (all_steps l.groups)) (record { groups = []; next = next; extracted = 0 }) tt
  numbered_switches scope next (g ∷ l) h =
      let Q : Walked → Type 0 = λ l. OfSwitches (all_steps l.groups) in
      any_good Q (scope_arms scope (next + length (members g)) (group_columns g))
      (λ a. numbered_groups scope a.next l >>= λ r.
      ok (record { groups = record { group = g; start = next; armed = a } ∷ r.groups; next = r.next; extracted = a.extracted + r.extracted }))
      (λ a. then_good Q Q (numbered_groups scope a.next l) (numbered_switches scope a.next l h.1)
      (λ r. ok (record { groups = record { group = g; start = next; armed = a } ∷ r.groups; next = r.next; extracted = a.extracted + r.extracted }))
      (λ r o. good_ok Q (record { groups = record { group = g; start = next; armed = a } ∷ r.groups; next = r.next; extracted = a.extracted + r.extracted })
      (of_append (member_steps next (members g)) (all_steps r.groups) (members_switches g.first next (members g) (members_like p g h.0)) o)))

-- whatever the trees are
pub scope_switches :
    (scope : ℕ → List Tree → Outcome Scoped) (next : ℕ) (ds : List Tree) (n : ℕ) (ts : List Tree)
    → Good (λ (l : Walked). OfSwitches (all_steps l.groups)) (numbered_groups scope next (scope_groups ds n ts))
unfolding scope_groups
scope_switches scope next ds n ts =
    let rs = settled_roots ds n ts in
    numbered_switches (λ x. true) scope next (groups_from [] (collect_switches rs)) (groups_fair (λ x. true) rs (holds_all_by (λ x. true) rs (λ x t. tt)))
