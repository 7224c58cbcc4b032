-- No scope's numbers go back, and it has a value for each tree (01, "Scoped fusion"), whatever the text of a tree is. Assumes nothing.
use Prim.Native.Nat.{ℕ, ◌+◌, ◌≤◌}
use native.Mathlib.Omega.{arith}
use mathlib.Core.Path.{◌≡◌, sym, ◌∙◌, subst}
use mathlib.Core.Bool.{Bool, true, false}
use mathlib.Core.List.{List}
use lib.ListN.{length, take, drop, length-map}
use lib.Seq.{length-take-le}
use Rattle.spec_tree.specs.Outcome.{Outcome, refused, by, ◌>>=◌}
use Rattle.spec_tree.specs.Tree.{Tree}
use Rattle.spec_tree.specs.Facts.{all_operations}
use Rattle.spec_cse.specs.Extract.{State}
use Rattle.spec_cse.specs.Order.{topo_sort_intermediates}
use Rattle.spec_cse.specs.Scope.{Scoped, finish, fuse_all, left_after, has_room, fuse_held}
use Rattle.laws.proofs.cse.Outcomes.{Good, then_good, any_good, good_ok}
use Rattle.laws.specs.positions.Shown.{extract_all_by, reciprocals_by}
use Rattle.laws.specs.positions.Rounds.{next_number, state_of, bind_each_on, rounds_on}
use Rattle.laws.proofs.positions.RoundsOn.{rounds_on_length}
use Rattle.fusion.specs.Settled.{Walked, numbered_groups, all_steps}
use Rattle.fusion.specs.Whole.{divisors_of, settled_fused, scope_groups, scope_stmts, scope_work, settled_scope}
use Rattle.fusion.proofs.Grouping.{groups_forth}
use Rattle.fusion.proofs.Whole.{scope_is, rounds_then}
use Rattle.scope_laws.proofs.told.Walking.{Proper, forth}

-- from a number on, with k values
abbrev From : ℕ → ℕ → Scoped → Type 0
From first k a = (first ≤ a.next) × (length a.results ≡ k)

-- whatever a test says, a refusal or what has the property
pub tested_good : {A : Type 0} (Q : A → Type 0) (o : Outcome A) (i : ℕ) → Good Q o → (b : Bool) → Good Q (elim b as (λ _. Outcome A) [ true ↦ o | false ↦ refused (by i) ])
unfolding Good
tested_good Q o i h true = h
tested_good Q o i h false = tt

module _ (scope : ℕ → List Tree → Outcome Scoped) (proper : (n : ℕ) (es : List Tree) → Good (Proper n es) (scope n es)) where
  next_most : (k first : ℕ) (ts : List Tree) → first ≤ next_number k first ts
  unfolding next_number
  next_most k first ts = omega arith

  settled_proper : (x k first : ℕ) (ts ds : List Tree) → k ≤ length ts → Good (From first k) (settled_scope scope x k first ts ds)
  unfolding settled_scope finish scope_work
  settled_proper x k first ts ds h =
      let n = next_number k first ts in
      then_good (λ (l : Walked). n + length ds ≤ l.next) (From first k) (numbered_groups scope (n + length ds) (scope_groups ds n ts))
      (groups_forth scope (λ i es. forth scope proper i es) (n + length ds) (scope_groups ds n ts)) (λ l. finish (scope_work x k first ts ds l))
      (λ l g. any_good (From first k) (topo_sort_intermediates (scope_stmts k first ts ds l.groups)) _
      (λ r. good_ok (From first k) _
      (let z = next_most k first ts in omega (arith, z, g), length-map (take k ts) (settled_fused ds n (all_steps l.groups)) ∙ length-take-le k ts h)))

  held_proper : (left k first : ℕ) (ts ds : List Tree) → k ≤ length ts
      → Good (From first k) (fuse_held scope left (length (drop k ts)) (state_of k first (bind_each_on ds (next_number k first ts) ts)))
  unfolding fuse_held
  held_proper left k first ts ds h =
      let x = length (drop k ts) in
      let s = state_of k first (bind_each_on ds (next_number k first ts) ts) in
      tested_good (From first k) (fuse_all scope x s >>= λ w. finish w) 23
      (subst (Good (From first k)) (sym (scope_is k first ts ds h scope x)) (settled_proper x k first ts ds h)) (has_room left x s)

-- a scope after its test: its arms' scopes are given the rows that are left
module _ (scope : ℕ → ℕ → List Tree → Outcome Scoped) (proper : (i n : ℕ) (es : List Tree) → Good (Proper n es) (scope i n es)) where
  pub body_proper :
      (shown : Tree → List ℕ) (left next : ℕ) (es : List Tree)
      → Good (Proper next es)
      (extract_all_by shown true next es >>= λ s.
      fuse_held (scope (left_after left (length s.lets) (reciprocals_by shown true s))) left (length s.lets) (reciprocals_by shown true s))
  body_proper shown left next es =
      let k = length es in
      let end : ℕ → State → Outcome Scoped = λ x s. fuse_held (scope (left_after left x s)) left x s in
      let after : List Tree → State = λ ts. state_of k next (bind_each_on (divisors_of shown ts) (next_number k next ts) ts) in
      subst (Good (From next k)) (sym (rounds_then end shown next es))
      (then_good (λ (ts : List Tree). k ≤ length ts) (From next k) (rounds_on shown (all_operations es) true k next es)
      (rounds_on_length shown (all_operations es) true k next es (omega arith)) _ (λ ts h.
      let i = left_after left (length (drop k ts)) (after ts) in
      held_proper (scope i) (proper i) left k next ts (divisors_of shown ts) h))
