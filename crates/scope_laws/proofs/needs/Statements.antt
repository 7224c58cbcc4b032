-- A scope's statements as lets of its settled trees and then matches, and their needs from what is read before the scopes of arms (01, "Order", "Scoped fusion").
-- Assumes nothing.
use Prim.Native.Nat.{ℕ, ◌+◌, ◌≤◌}
use native.Mathlib.Omega.{arith}
use mathlib.Core.Path.{◌≡◌, refl, sym, ◌∙◌, ap, subst}
use mathlib.Core.List.{List, [], ◌++◌, append_assoc, map}
use lib.ListN.{length, drop, length-append, length-map, length-drop}
use lib.Dec.{T}
use Rattle.spec_tree.specs.Outcome.{Outcome, ok, ◌>>=◌}
use Rattle.spec_tree.specs.Tree.{Tree}
use Rattle.spec_tree.proofs.TokenLaws.{map_append}
use Rattle.spec_rewrite.proofs.Counts.{well_formed_all}
use Rattle.spec_rewrite.proofs.Names.{holds_all}
use Rattle.spec_cse.specs.Extract.{State, roots}
use Rattle.spec_cse.specs.Answer.{Intermediate}
use Rattle.spec_cse.specs.Order.{needs}
use Rattle.spec_cse.specs.Scope.{Group, collect_switches, groups_from, Work, Scoped, unfused, fuse_all, fuse_groups}
use Rattle.laws.proofs.cse.Outcomes.{Good}
use Rattle.laws.proofs.cse.ScopeValue.{under}
use Rattle.laws.specs.positions.Rounds.{next_number, state_of}
use Rattle.laws.proofs.positions.RoundsOn.{roots_of_state}
use Rattle.reciprocals.proofs.bindings.Parts.{settle_tree, settled_reciprocals}
use Rattle.laws.proofs.outernames.Rounds.{Begun, state_below}
use Rattle.laws.proofs.outernames.Arms.{SameNames}
use Rattle.laws.proofs.outernames.Ordering.{needs_of, read_before, fused_needs}
use Rattle.fusion.specs.Settled.{fused_tree, Numbered, Walked, numbered_groups, all_steps, group_matches, settled_work, settled_groups}
use Rattle.fusion.specs.Whole.{settled_fused, lets_from, settled_roots, scope_groups, scope_stmts}
use Rattle.fusion.proofs.Fusing.{fused_are}
use Rattle.fusion.proofs.Whole.{lets_append, lets_fused}
use Rattle.reciprocals.proofs.reciprocal.Made.{settled_long}
use Rattle.spec_tree.proofs.Lists.{map_through, drop_front}

-- ---- lists

-- ---- the statements

module _ (k first : ℕ) (ts ds : List Tree) (within : k ≤ length ts) where
  abbrev n : ℕ
  n = next_number k first ts

  abbrev us : List Tree
  us = settled_roots ds n ts

  pub roots_count : length (settled_roots ds (next_number k first ts) ts) ≡ length ts + length ds
  unfolding settled_roots
  roots_count = omega (arith, length-append (map (settle_tree ds n) ts) (settled_reciprocals ds n), length-map ts (settle_tree ds n), settled_long ds n)

  pub next_is : next_number k first (settled_roots ds (next_number k first ts) ts) ≡ next_number k first ts + length ds
  unfolding next_number
  next_is = omega (arith, roots_count, length-drop k us, length-drop k ts)

  pub stmts_are : (ls : List Numbered) → scope_stmts k first ts ds ls ≡ lets_from first (map (fused_tree (all_steps ls)) (drop k (settled_roots ds (next_number k first ts) ts))) ++ group_matches ls
  unfolding scope_stmts settled_roots settled_fused next_number
  stmts_are ls =
      let steps = all_steps ls in
      let f : Tree → Tree = settle_tree ds n in
      let g : Tree → Tree = fused_tree steps in
      let h : Tree → Tree = settled_fused ds n steps in
      let rs = settled_reciprocals ds n in
      let a = lets_from first (map h (drop k ts)) in
      let z : first + length (map h (drop k ts)) ≡ first + length (drop k ts) = omega (arith, length-map (drop k ts) h) in
      let lets : lets_from first (map g (drop k (map f ts ++ rs))) ≡ a ++ lets_from n (map g rs) =
      ap (λ (y : List Tree). lets_from first (map g y)) (drop_front f k ts rs within)
      ∙ (ap (lets_from first) (map_append g (map f (drop k ts)) rs)
      ∙ (ap (λ (y : List Tree). lets_from first (y ++ map g rs)) (map_through f g h (λ (t : Tree). refl) (drop k ts))
      ∙ (lets_append first (map h (drop k ts)) (map g rs) ∙ ap (λ (i : ℕ). a ++ lets_from i (map g rs)) z))) in
      sym (append_assoc a (lets_from n (map g rs)) (group_matches ls)) ∙ ap (λ (y : List Intermediate). y ++ group_matches ls) (sym lets)

  -- ---- their needs

  module _ (scope : ℕ → List Tree → Outcome Scoped) (ih : (start : ℕ) (es : List Tree) → T (well_formed_all es) → Good (SameNames start es) (scope start es))
      (formed : T (well_formed_all us)) (under_next : T (holds_all (under (n + length ds)) us)) (l : Walked) (walk : numbered_groups scope (n + length ds) (scope_groups ds n ts) ≡ ok l) where
    abbrev s : State
    s = state_of k first us

    abbrev S : List Intermediate
    S = scope_stmts k first ts ds l.groups

    roots_are : roots s ≡ us
    roots_are = roots_of_state k first us

    next_at : s.next ≡ n + length ds
    next_at = (unfold state_of in next_is)

    begun : Begun s.next us s
    begun =
        record {
          later = omega arith;
          formed = subst (λ (y : List Tree). T (well_formed_all y)) (sym roots_are) formed;
          back = λ p h. subst (λ (y : List Tree). T (holds_all p y)) roots_are h;
          forth = λ q new h. subst (λ (y : List Tree). T (holds_all q y)) (sym roots_are) h;
          top = λ h. subst (λ (y : List Tree). T (holds_all (under s.next) y)) (sym roots_are) h;
          bound = λ h. state_below k first us;
        }

    groups_are : groups_from [] (collect_switches (roots s)) ≡ scope_groups ds n ts
    groups_are = ap (λ (y : List Tree). groups_from [] (collect_switches y)) roots_are ∙ (unfold scope_groups in refl)

    abbrev w : Work
    w = settled_work (unfused 0 s) l

    start_is : (unfused 0 s).next ≡ n + length ds
    start_is = (unfold unfused in next_at)

    fused : fuse_all scope 0 s ≡ ok w
    unfolding fuse_all settled_groups
    fused =
        ap (λ (gs : List Group). fuse_groups scope gs (unfused 0 s)) groups_are
        ∙ (fused_are scope (scope_groups ds n ts) (unfused 0 s)
        ∙ (ap (λ (i : ℕ). numbered_groups scope i (scope_groups ds n ts) >>= λ r. ok (settled_work (unfused 0 s) r)) start_is
        ∙ ap (λ (o : Outcome Walked). o >>= λ r. ok (settled_work (unfused 0 s) r)) walk))

    inters_are : w.inters ≡ S
    unfolding settled_work unfused state_of
    inters_are = ap (λ (y : List Intermediate). y ++ group_matches l.groups) (lets_fused (all_steps l.groups) first (drop k us)) ∙ sym (stmts_are l.groups)

    pub stmts_needs :
        needs (scope_stmts k first ts ds l.groups) (scope_stmts k first ts ds l.groups)
        ≡ needs_of (scope_stmts k first ts ds l.groups) (read_before (scope_stmts k first ts ds l.groups) (scope_groups ds (next_number k first ts) ts))
    stmts_needs =
        let h : T (holds_all (under s.next) us) = subst (λ (i : ℕ). T (holds_all (under i) us)) (sym next_at) under_next in
        let e = fused_needs scope ih s.next us 0 s begun h w fused in
        subst (λ (y : List Intermediate). needs y y ≡ needs_of y (read_before y (scope_groups ds n ts))) inters_are
        (e ∙ ap (λ (gs : List Group). needs_of w.inters (read_before w.inters gs)) groups_are)
