-- Extraction, reciprocals and scopes with the text of a tree given by `shown` (01, "Extraction", "Reciprocals", "Scoped fusion"): for trees whose symbols are
-- numbers, with the text that they have under their names. Texts decide only between candidates of equal savings and depth, and the order of divisors. With
-- `display` for `shown` these are the definitions of Extract and Scope. Assumes nothing.
use Prim.Native.Nat.{ℕ, zero, suc}
use Rattle.std.specs.Prelude.{Bool, ◌&&◌, ◌||◌, length, eqb}
use Rattle.std.proofs.Math.Bool.{true, false}
use Rattle.std.proofs.Math.Option.{Option, none, some}
use mathlib.Core.List.{List, [], ◌∷◌}
use Rattle.std.proofs.Math.Dec.{ltb}
use Rattle.spec_tree.specs.Outcome.{Outcome, ok, refused, by, ◌>>=◌}
use Rattle.spec_tree.specs.Tree.{Tree}
use Rattle.spec_tree.specs.Facts.{all_operations, all_nodes}
use Rattle.spec_tree.specs.text.Text.{before}
use Rattle.spec_cse.specs.Extract.{State, roots, is_candidate, Candidate, candidate, extract, divisors, distinct, shared_divisors, bind_reciprocals}
use Rattle.spec_cse.specs.Answer.{Answer}
use Rattle.spec_cse.specs.Scope.{Scoped, unfused, finish, left_after, fuse_held, opens, area_rows, scopes_open, as_answer}

module _ (shown : Tree → List ℕ) where
  -- ---- the best candidate (01, "Extraction")

  -- the second beats the first: more savings, then deeper, then a later text
  unfoldable pub beats_by : Candidate → Candidate → Bool
  unfolding before
  beats_by a b =
      ltb a.savings b.savings
      || (eqb a.savings b.savings
      && (ltb a.deep b.deep || (eqb a.deep b.deep && before (shown a.tree) (shown b.tree))))

  unfoldable pub best_from_by : Bool → List Tree → Option Candidate → List Tree → Option Candidate
  unfolding is_candidate candidate beats_by
  best_from_by scoped rs o [] = o
  best_from_by scoped rs none (e ∷ l) =
      elim (is_candidate scoped rs e) [ true ↦ best_from_by scoped rs (some (candidate rs e)) l | false ↦ best_from_by scoped rs none l ]
  best_from_by scoped rs (some a) (e ∷ l) =
      elim (is_candidate scoped rs e && beats_by a (candidate rs e)) [
        | true ↦ best_from_by scoped rs (some (candidate rs e)) l
        | false ↦ best_from_by scoped rs (some a) l
      ]

  unfoldable pub best_by : Bool → List Tree → Option Candidate
  unfolding best_from_by all_nodes
  best_by scoped rs = best_from_by scoped rs none (all_nodes rs)

  unfoldable pub rounds_by : ℕ → Bool → State → Outcome State
  unfolding best_by extract roots
  rounds_by zero scoped s = ok s
  rounds_by (suc fuel) scoped s =
      elim (best_by scoped (roots s)) [ none ↦ ok s | some c ↦ (extract c.tree s >>= λ t. rounds_by fuel scoped t) ]

  unfoldable pub extract_all_by : Bool → ℕ → List Tree → Outcome State
  unfolding rounds_by all_operations
  extract_all_by scoped next es = rounds_by (all_operations es) scoped (record { results = es; lets = []; next = next })

  -- ---- divisors in text order (01, "Reciprocals")

  unfoldable pub insert_by : Tree → List Tree → List Tree
  unfolding before
  insert_by d [] = d ∷ []
  insert_by d (e ∷ l) = elim (before (shown e) (shown d)) [ true ↦ e ∷ insert_by d l | false ↦ d ∷ (e ∷ l) ]

  unfoldable pub sort_by : List Tree → List Tree
  unfolding insert_by
  sort_by [] = []
  sort_by (d ∷ l) = insert_by d (sort_by l)

  unfoldable pub reciprocals_by : Bool → State → State
  unfolding roots bind_reciprocals sort_by shared_divisors distinct divisors all_nodes
  reciprocals_by scoped s =
      let rs = roots s in
      bind_reciprocals (sort_by (shared_divisors scoped rs (distinct [] (divisors (all_nodes rs))))) s

  -- ---- scopes (01, "Scoped fusion")

  unfoldable pub cse_scope_by : ℕ → ℕ → Bool → ℕ → List Tree → Outcome Scoped
  unfolding extract_all_by reciprocals_by unfused left_after fuse_held finish opens
  cse_scope_by zero left scoped next es = refused (by 23)
  cse_scope_by (suc fuel) left false next es = extract_all_by false next es >>= λ s. finish (unfused (length s.lets) (reciprocals_by false s))
  cse_scope_by (suc fuel) left true next es =
      elim (opens left next es) [
        | true ↦ (extract_all_by true next es >>= λ s.
            fuse_held (λ n l. cse_scope_by fuel (left_after left (length s.lets) (reciprocals_by true s)) true n l) left (length s.lets) (reciprocals_by true s))
        | false ↦ refused (by 23)
      ]

  unfoldable pub answer_by : Bool → List Tree → Outcome Answer
  unfolding cse_scope_by scopes_open as_answer
  answer_by scoped es = cse_scope_by scopes_open area_rows scoped 0 es >>= λ a. ok (as_answer a)
