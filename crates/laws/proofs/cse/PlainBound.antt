-- Where each divisor of a list holds a symbol, or no switch, no scope that is reached binds a divisor with a switch: rounds, reciprocals and fusion keep that, and a
-- divisor that a scope binds is a leaf or holds no symbol. Assumes nothing.
use Prim.Native.Nat.{ℕ, zero, suc, ◌≤◌}
use mathlib.Core.Path.{◌≡◌, refl}
use mathlib.Core.Bool.{Bool, true, ◌&&◌}
use mathlib.Core.List.{List, [], ◌∷◌}
use native.Mathlib.Omega.{arith}
use lib.ListN.{length}
use lib.Dec.{T}
use Rattle.spec_tree.specs.Outcome.{Outcome, ok, refused}
use Rattle.spec_tree.specs.Tree.{Tree, Forest, Op, nil, ◌◂◌}
use Rattle.spec_tree.specs.Rows.{within_limits}
use Rattle.spec_tree.proofs.Logic.{and_left, and_right, and_both}
use Rattle.spec_rewrite.proofs.Counts.{well_formed_all}
use Rattle.spec_rewrite.proofs.Names.{holds_all}
use Rattle.spec_cse.specs.Extract.{State, roots, extract_all, reciprocals}
use Rattle.spec_cse.specs.Scope.{Group, Work, Scoped, members, collect_switches, groups_from, name_members, columns, arms_of_members, fuse_group, unfused, left_after, cse_scope, scopes_open, area_rows}
use Rattle.laws.proofs.cse.Outcomes.{Good}
use Rattle.laws.proofs.cse.RoundsCount.{extract_all_end}
use Rattle.laws.proofs.cse.ReciprocalsCount.{AllTrees, bound_divisors}
use Rattle.laws.proofs.cse.ScopeValue.{under, under_le, name_members_later}
use Rattle.laws.proofs.cse.ScopeRoom.{nests_at_most, limits_nesting}
use Rattle.laws.proofs.cse.CleanDivisors.{all_ops, all_ops_each, divides_plain, clean, AllClean, extract_all_clean, reciprocals_clean, PlainDivisors, all_clean_from, bound_no_switch}
use Rattle.laws.proofs.cse.ArmNodes.{arms_total, Groups, SmallGroups, some_small, Columns, group_columns}
use Rattle.laws.proofs.cse.SwitchArms.{AllOperands, as_list, groups_all}
use Rattle.laws.proofs.cse.NumbersMost.{ScopeLater, WorkLater, group_later, scope_later}
use Rattle.laws.proofs.cse.BoundSwitches.{if_given, none_hold_switch, arms_pass, groups_pass, none_bound, no_switch_bound, given_good, none_held}
use Rattle.laws.proofs.cse.RoomEnough.{Fit, groups_fit, fit_all, fit_more, formed, made, roots_fit}

-- ---- arms of clean switches

abbrev Clean : Tree → Type 0
Clean t = T (clean t)

each_clean : (f : Forest) → T (all_ops_each divides_plain f) → AllOperands Clean f
unfolding clean all_ops
each_clean nil h = tt
each_clean (t ◂ f) h = (and_left (clean t) (all_ops_each divides_plain f) h, each_clean f (and_right (clean t) (all_ops_each divides_plain f) h))

operands_clean : (k : ℕ) (f : Forest) → Clean (Op k f) → AllOperands Clean f
unfolding clean all_ops
operands_clean k f h = each_clean f (and_right (divides_plain k f) (all_ops_each divides_plain f) h)

groups_clean : (rs : List Tree) → AllClean rs → Groups Clean (groups_from [] (collect_switches rs))
groups_clean rs h = groups_all Clean Clean operands_clean (λ k q f t c. as_list Clean f (operands_clean k (q ◂ f) c).1) rs h

-- ---- the scopes of arms

module _ (m left : ℕ) (ih : (start : ℕ) (es : List Tree) → AllTrees (Fit (under start) m) es → AllClean es → T (none_bound m left start es)) where
  abbrev scope : ℕ → List Tree → Outcome Scoped
  scope n l = cse_scope m left true n l

  abbrev test : ℕ → List Tree → Bool
  test n l = none_bound m left n l

  arms_bound :
      (N low start : ℕ) → low ≤ start → (ls : List (List Tree)) → Columns (Fit (under low) m) N ls → Columns Clean N ls → T (arms_pass scope test start ls)
  unfolding arms_pass
  arms_bound N low start h [] c d = tt
  arms_bound N low start h (es ∷ ls) c d =
      let rest : Scoped → Bool = λ a. arms_pass scope test a.next ls in
      and_both (test start es) (if_given rest (scope start es)) (ih start es (fit_more (under low) (under start) (under_le low start h) m es c.0.0) d.0.0)
      (given_good (ScopeLater start) rest (scope start es) (scope_later m left start es) (λ a g. arms_bound N low a.next (omega arith) ls c.1 d.1))

  groups_bound :
      (N low : ℕ) (gs : List Group) (w : Work) → low ≤ w.next → Groups (Fit (under low) m) gs → Groups Clean gs → SmallGroups N gs → T (groups_pass scope test gs w)
  unfolding groups_pass
  groups_bound N low [] w h a c k = tt
  groups_bound N low (g ∷ gs) w h a c k =
      let n = (name_members (members g) w).next in
      let l = columns (length g.first.arms) (arms_of_members (members g)) in
      let q = name_members_later (members g) w in
      let rest : Work → Bool = λ v. groups_pass scope test gs v in
      and_both (arms_pass scope test n l) (if_given rest (fuse_group scope g w))
      (arms_bound N low n (omega arith) l (group_columns (Fit (under low) m) N g a.0 k.0) (group_columns Clean N g c.0 k.0))
      (given_good (WorkLater low) rest (fuse_group scope g w) (group_later scope (λ n l. scope_later m left n l) low g w h)
      (λ v z. groups_bound N low gs v z a.1 c.1 k.1))

-- ---- a scope

scope_bound : (D left start : ℕ) (es : List Tree) → AllTrees (Fit (under start) D) es → AllClean es → T (none_bound D left start es)
unfolding none_bound
scope_bound zero left start es F c = tt
scope_bound (suc m) left start es F c = go (λ k n l. scope_bound m k n l) (extract_all true start es) refl (extract_all_clean true start es c)
  where
    after : State → ℕ
    after s = left_after left (length s.lets) (reciprocals true s)

    scope_in : State → ℕ → List Tree → Outcome Scoped
    scope_in s n l = cse_scope m (after s) true n l

    test_in : State → ℕ → List Tree → Bool
    test_in s n l = none_bound m (after s) n l

    fusing : State → Bool
    fusing s = groups_pass (scope_in s) (test_in s) (groups_from [] (collect_switches (roots (reciprocals true s)))) (unfused (length s.lets) (reciprocals true s))

    go : ((k n : ℕ) (l : List Tree) → AllTrees (Fit (under n) m) l → AllClean l → T (none_bound m k n l)) → (o : Outcome State) → extract_all true start es ≡ o → Good (λ u. AllClean (roots u)) o
        → T (if_given (λ s. none_hold_switch (bound_divisors true s) && fusing s) o)
    go ih (refused i) e g = (unfold if_given in tt)
    go ih (ok s) e g =
        let t = reciprocals true s in
        let clean_roots : AllClean (roots s) = (unfold Good in g) in
        (unfold if_given in
        and_both (none_hold_switch (bound_divisors true s)) (fusing s)
        (none_held (bound_divisors true s) (bound_no_switch s (extract_all_end true start es (formed start m es F) (made start m es F) s e).1 clean_roots))
        (groups_bound m (after s) (λ n l. ih (after s) n l) (arms_total (collect_switches (roots t))) t.next (groups_from [] (collect_switches (roots t))) (unfused (length s.lets) t)
        (unfold unfused in omega arith) (groups_fit (under t.next) m (roots t) (roots_fit start m es F s e)) (groups_clean (roots t) (reciprocals_clean true s clean_roots)) (some_small (roots t))))

-- For a list within the limits that holds no name of an answer.
pub plain_none_bound : (es : List Tree) → T (well_formed_all es) → T (holds_all (under 0) es) → T (within_limits es) → PlainDivisors es → T (no_switch_bound es)
unfolding no_switch_bound scopes_open
plain_none_bound es w h l p = scope_bound 9 area_rows 0 es (fit_all (under 0) 8 es w h (nests_at_most 8 es (limits_nesting es l))) (all_clean_from es p)
