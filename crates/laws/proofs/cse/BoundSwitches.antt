-- Whether no scope that the scoped form reaches binds a divisor with a switch outside arms, by the steps of `cse-scope` itself: each arm's scope on the column and
-- from the number that it is given there. Assumes nothing.
use Prim.Native.Nat.{ℕ, zero, suc}
use mathlib.Core.Path.{◌≡◌, subst}
use mathlib.Core.Bool.{Bool, true, false, not, ◌&&◌}
use mathlib.Core.List.{List, [], ◌∷◌}
use lib.ListN.{length}
use lib.Dec.{T}
use Rattle.spec_tree.specs.Outcome.{Outcome, ok, refused}
use Rattle.spec_tree.specs.Tree.{Tree}
use Rattle.spec_tree.proofs.Logic.{and_left, and_right, and_both}
use Rattle.spec_tree.proofs.Formed.{well_formed}
use Rattle.spec_cse.specs.Extract.{roots, extract_all, reciprocals}
use Rattle.spec_cse.specs.Scope.{Group, Work, Scoped, members, collect_switches, groups_from, name_members, columns, arms_of_members, fuse_group, unfused, holds_switch, left_after, cse_scope, scopes_open, area_rows}
use Rattle.laws.proofs.cse.Outcomes.{Good}
use Rattle.laws.proofs.cse.ReciprocalsCount.{AllTrees, bound_divisors}
use Rattle.laws.proofs.cse.CleanDivisors.{no_switch, none_outside, none_inside}

-- a test of what a step gives, if it gives anything
unfoldable pub if_given : {A : Type 0} → (A → Bool) → Outcome A → Bool
if_given f (ok a) = f a
if_given f (refused i) = true

unfoldable pub none_hold_switch : List Tree → Bool
unfolding holds_switch
none_hold_switch [] = true
none_hold_switch (d ∷ l) = not (holds_switch d) && none_hold_switch l

-- the scopes of arms that are reached pass a test: those of a group's columns, and those of all groups
module _ (scope : ℕ → List Tree → Outcome Scoped) (test : ℕ → List Tree → Bool) where
  unfoldable pub arms_pass : ℕ → List (List Tree) → Bool
  unfolding if_given
  arms_pass next [] = true
  arms_pass next (es ∷ l) = test next es && if_given (λ a. arms_pass a.next l) (scope next es)

  unfoldable pub groups_pass : List Group → Work → Bool
  unfolding arms_pass if_given fuse_group members name_members columns arms_of_members
  groups_pass [] w = true
  groups_pass (g ∷ l) w =
      arms_pass (name_members (members g) w).next (columns (length g.first.arms) (arms_of_members (members g)))
      && if_given (λ v. groups_pass l v) (fuse_group scope g w)

-- a scope from a number on, where so many can be open and so many rows are left
unfoldable pub none_bound : ℕ → ℕ → ℕ → List Tree → Bool
unfolding if_given extract_all reciprocals none_hold_switch bound_divisors groups_pass groups_from collect_switches roots unfused left_after cse_scope
none_bound zero left next es = true
none_bound (suc fuel) left next es =
    if_given
    (λ s. none_hold_switch (bound_divisors true s)
    && groups_pass (λ n l. cse_scope fuel (left_after left (length s.lets) (reciprocals true s)) true n l)
    (λ n l. none_bound fuel (left_after left (length s.lets) (reciprocals true s)) n l) (groups_from [] (collect_switches (roots (reciprocals true s)))) (unfused (length s.lets) (reciprocals true s)))
    (extract_all true next es)

-- the scopes of a whole list
unfoldable pub no_switch_bound : List Tree → Bool
unfolding none_bound scopes_open
no_switch_bound es = none_bound scopes_open area_rows 0 es

-- ---- laws

pub given_at : {A : Type 0} (f : A → Bool) (o : Outcome A) (a : A) → o ≡ ok a → T (if_given f o) → T (f a)
unfolding if_given
given_at f o a e h = subst (λ x. T (if_given f x)) e h

pub given_good : {A : Type 0} (Q : A → Type 0) (f : A → Bool) (o : Outcome A) → Good Q o → ((a : A) → Q a → T (f a)) → T (if_given f o)
unfolding if_given Good
given_good Q f (ok a) h g = g a h
given_good Q f (refused i) h g = tt

-- a well-formed tree without a switch outside arms has none
pub none_hold : (l : List Tree) → AllTrees (λ d. T (well_formed d)) l → T (none_hold_switch l) → AllTrees (λ d. T (no_switch d)) l
unfolding none_hold_switch
none_hold [] w h = tt
none_hold (d ∷ l) w h =
    (none_inside d w.0 (and_left (not (holds_switch d)) (none_hold_switch l) h), none_hold l w.1 (and_right (not (holds_switch d)) (none_hold_switch l) h))

pub none_held : (l : List Tree) → AllTrees (λ d. T (no_switch d)) l → T (none_hold_switch l)
unfolding none_hold_switch
none_held [] h = tt
none_held (d ∷ l) h = and_both (not (holds_switch d)) (none_hold_switch l) (go (holds_switch d) (none_outside d h.0)) (none_held l h.1)
  where
    go : (b : Bool) → (T b → ⊥) → T (not b)
    go true f = f tt
    go false f = tt
