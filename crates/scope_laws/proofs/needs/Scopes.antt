-- A scope of trees with any texts reads from outside what its input reads; and the roots that its rounds leave, with their reciprocals, have right operand counts and
-- no name from the next number on: what the order of its statements is told from (01, "Order", "Scoped fusion"). Assumes nothing.
use Prim.Native.Nat.{ℕ, zero, suc, ◌+◌, ◌≤◌}
use native.Mathlib.Omega.{arith}
use mathlib.Core.Path.{◌≡◌, ◌∙◌, ap, subst}
use mathlib.Core.Bool.{Bool, true, false}
use mathlib.Core.List.{List}
use lib.ListN.{length}
use lib.Dec.{T}
use Rattle.spec_tree.specs.Outcome.{Outcome, ok, ◌>>=◌}
use Rattle.spec_tree.specs.Tree.{Tree}
use Rattle.spec_tree.specs.Facts.{all_operations}
use Rattle.spec_rewrite.proofs.Counts.{well_formed_all}
use Rattle.spec_rewrite.proofs.Names.{holds_all}
use Rattle.spec_cse.specs.Extract.{roots}
use Rattle.spec_cse.specs.Scope.{left_after, opens}
use Rattle.laws.proofs.cse.Outcomes.{Good, good_at}
use Rattle.laws.proofs.cse.ScopeValue.{under}
use Rattle.laws.proofs.cse.ScopeRoom.{or_no_room, or_not_held}
use Rattle.laws.specs.positions.Shown.{extract_all_by, reciprocals_by, cse_scope_by}
use Rattle.laws.specs.positions.Rounds.{next_number, state_of, rounds_on, reciprocals_on}
use Rattle.laws.proofs.positions.RoundsOn.{roots_of_state, extract_all_on, reciprocals_on_state, rounds_on_length}
use Rattle.reciprocals.proofs.bindings.Parts.{bound_are_settled}
use Rattle.laws.proofs.outernames.Rounds.{Begun, begun_by}
use Rattle.laws.proofs.outernames.Arms.{SameNames}
use Rattle.laws.proofs.outernames.Finishing.{fused_finished, plain_finished, from_input_by}
use Rattle.fusion.specs.Whole.{divisors_of, settled_roots}
use Rattle.scope_laws.proofs.needs.Statements.{next_is}

module _ (shown : Tree → List ℕ) where
  pub scope_same_by :
      (fuel left : ℕ) (scoped : Bool) (start : ℕ) (es : List Tree) → T (well_formed_all es) → Good (SameNames start es) (cse_scope_by shown fuel left scoped start es)
  unfolding cse_scope_by
  scope_same_by zero left scoped start es w = (unfold Good in tt)
  scope_same_by (suc fuel) left false start es w =
      from_input_by shown false start es w _ (λ s B. plain_finished start es (length s.lets) (reciprocals_by shown false s) B)
  scope_same_by (suc fuel) left true start es w =
      or_no_room (Good (SameNames start es)) (unfold Good in tt) (opens left start es) _
      (from_input_by shown true start es w _
      (λ s B.
      let m = left_after left (length s.lets) (reciprocals_by shown true s) in
      or_not_held (Good (SameNames start es)) (unfold Good in tt) (λ n l. cse_scope_by shown fuel m true n l) left (length s.lets) (reciprocals_by shown true s)
      (fused_finished (λ n l. cse_scope_by shown fuel m true n l) (λ n l v. scope_same_by fuel m true n l v) start es (length s.lets) (reciprocals_by shown true s) B)))

  -- ---- after the rounds

  module _ (first : ℕ) (es ts : List Tree) (rounds : rounds_on shown (all_operations es) true (length es) first es ≡ ok ts) (formed : T (well_formed_all es)) where
    abbrev k : ℕ
    k = length es

    abbrev ds : List Tree
    ds = divisors_of shown ts

    abbrev n : ℕ
    n = next_number k first ts

    abbrev us : List Tree
    us = settled_roots ds n ts

    within : k ≤ length ts
    within = good_at (λ (us : List Tree). k ≤ length us) (rounds_on shown (all_operations es) true k first es) ts rounds (rounds_on_length shown (all_operations es) true k first es (omega arith))

    extracted : extract_all_by shown true first es ≡ ok (state_of k first ts)
    extracted = extract_all_on shown true first es ∙ ap (λ (o : Outcome (List Tree)). o >>= λ us. ok (state_of k first us)) rounds

    divided : reciprocals_on shown true k first ts ≡ us
    unfolding reciprocals_on divisors_of settled_roots
    divided = bound_are_settled ds n ts

    state_is : reciprocals_by shown true (state_of k first ts) ≡ state_of k first us
    state_is = reciprocals_on_state shown true k first ts within ∙ ap (state_of k first) divided

    begun : Begun first es (state_of k first us)
    begun = subst (Begun first es) state_is (begun_by shown true first es (state_of k first ts) extracted formed)

    next_at : (state_of k first us).next ≡ n + length ds
    unfolding state_of
    next_at = next_is k first ts ds within

    pub rounds_enough : length es ≤ length ts
    rounds_enough = within

    -- operand counts are right
    pub roots_formed : T (well_formed_all (settled_roots (divisors_of shown ts) (next_number (length es) first ts) ts))
    roots_formed = subst (λ (l : List Tree). T (well_formed_all l)) (roots_of_state k first us) begun.formed

    -- and names have numbers below the next
    pub roots_under :
        T (holds_all (under first) es)
        → T (holds_all (under (next_number (length es) first ts + length (divisors_of shown ts))) (settled_roots (divisors_of shown ts) (next_number (length es) first ts) ts))
    roots_under h =
        subst (λ (l : List Tree). T (holds_all (under (n + length ds)) l)) (roots_of_state k first us)
        (subst (λ (i : ℕ). T (holds_all (under i) (roots (state_of k first us)))) next_at (begun.top h))
