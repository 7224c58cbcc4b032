-- Demand 3 of what the public operations return, over both forms together (01, "Value, for demand 3"): one theorem about a call of `cse` and a call of `cse_scoped` on
-- the same node rows and roots, whatever is lent with them. Over the contracts alone, so for any program that meets them. Assumes nothing.
use Prim.Native.Nat.{ℕ, ◌+◌, ◌≤◌}
use mathlib.Core.Path.{◌≡◌}
use mathlib.Core.Bool.{Bool, true, false}
use mathlib.Core.List.{List, [], ◌++◌}
use lib.ListN.{length}
use lib.Dec.{T, leb}
use Rattle.spec_tree.specs.Outcome.{ok}
use Rattle.spec_tree.specs.Tree.{Tree}
use Rattle.spec_tree.specs.Facts.{all_operations, cost, count, all_nodes}
use Rattle.spec_tree.specs.Passes.{passes}
use Rattle.spec_tree.specs.Layout.{laid_out}
use Rattle.spec_tree.specs.Value.{Reading, Env, values}
use Rattle.spec_tree.proofs.Logic.{and_left, and_right}
use Rattle.spec_cse.specs.Answer.{Answer, all_symbols, elem}
use Rattle.spec_cse.specs.Answer as answers
use Rattle.spec_cse.specs.Scope.{answer}
use Rattle.spec_cse.specs.Call.{work_words, work_bytes}
use Rattle.spec_cse.specs.Read.{answer_values}
use Rattle.spec_cse.specs.Demand.{bound_stmts, all_different, in_scope, well_scoped, flat_shaped, bound_exprs, depends, dependent, no_repeats, extracted_exprs, Demand3}
use Rattle.guarantee.proofs.Whole.{demand3}
use Rattle.guarantee.proofs.TurnedDown.{Call, Returns, list_of, returned_is}
use Rattle.guarantee.proofs.TurnedDown as operations

-- a call of each form on the same rows and roots
abbrev pub Calls : List ℕ → List ℕ → Type 0
Calls rows roots = (scoped : Bool) → Call scoped rows roots

pub both_calls : (rows roots : List ℕ) → Call false rows roots → Call true rows roots → Calls rows roots
both_calls rows roots flat scoped false = flat
both_calls rows roots flat scoped true = scoped

-- Demand 3 of the answers that two calls return, each where it returns one. The list is that of the rows and roots; its symbols are the input symbols.
pub record ReturnedAsDemanded (rows roots : List ℕ) (calls : Calls rows roots) : Type 0 where
  -- the list passes 9, and the answers are the flat and the scoped one of the definition
  pub list_passes : (scoped : Bool) (a : Answer) → Returns scoped rows roots (calls scoped) a → T (passes (list_of rows roots))
  pub is_answer : (scoped : Bool) (a : Answer) → Returns scoped rows roots (calls scoped) a → answer scoped (list_of rows roots) ≡ ok a
  -- and each is returned wherever the work area is long enough, the rows pass 9, and the table has room for it
  pub returned_where :
      (scoped : Bool) → work_words ≤ (calls scoped).words → work_bytes ≤ (calls scoped).bytes → T (laid_out rows roots)
      → (a : Answer) → answer scoped (list_of rows roots) ≡ ok a → answers.rows a ≤ length (calls scoped).old → Returns scoped rows roots (calls scoped) a
  -- in both, each name is bound once
  pub bound_once : (scoped : Bool) (a : Answer) → Returns scoped rows roots (calls scoped) a → T (all_different (bound_stmts a.inters))
  -- in both, each name is used only later, and inside its scope
  pub used_later_in_scope :
      (scoped : Bool) (a : Answer) → Returns scoped rows roots (calls scoped) a
      → T (in_scope (all_symbols (list_of rows roots)) (bound_stmts a.inters) a.inters [] a.results)
  -- both have the values of the input, for every modulus from 2 up and every reading of symbols, reciprocals, functions, indices and signs
  pub same_values :
      (scoped : Bool) (a : Answer) → Returns scoped rows roots (calls scoped) a
      → (R : Reading) (ρ : Env) → answer_values R ρ a ≡ values R ρ (list_of rows roots)
  -- the flat one has lets of some `__xi` alone, and from the extraction count on each binds 1 / d
  pub only_lets : (a : Answer) → Returns false rows roots (calls false) a → flat_shaped a
  -- in it no expression with an operation that depends on an input symbol stands twice
  pub none_twice :
      (a : Answer) → Returns false rows roots (calls false) a → (e : Tree) → T (leb 1 (cost e))
      → T (depends (dependent a.inters (λ n. elem n (all_symbols (list_of rows roots)))) e)
      → count e (all_nodes (a.results ++ bound_exprs a.inters)) ≤ 1
  -- the flat one's extraction count is the number of bindings that extraction made
  pub counted : (a : Answer) → Returns false rows roots (calls false) a → length (extracted_exprs a.extracted a.inters) ≡ a.extracted
  -- and with the operations outside reciprocal bindings it is at most the operations given
  pub count_bounded :
      (a : Answer) → Returns false rows roots (calls false) a
      → a.extracted + all_operations (a.results ++ extracted_exprs a.extracted a.inters) ≤ all_operations (list_of rows roots)

module _ (es : List Tree) (a : Answer) where
  once : T (well_scoped es a) → T (all_different (bound_stmts a.inters))
  unfolding well_scoped
  once h = and_left (all_different (bound_stmts a.inters)) (in_scope (all_symbols es) (bound_stmts a.inters) a.inters [] a.results) h

  later : T (well_scoped es a) → T (in_scope (all_symbols es) (bound_stmts a.inters) a.inters [] a.results)
  unfolding well_scoped
  later h = and_right (all_different (bound_stmts a.inters)) (in_scope (all_symbols es) (bound_stmts a.inters) a.inters [] a.results) h

  single :
      no_repeats es a → (e : Tree) → T (leb 1 (cost e)) → T (depends (dependent a.inters (λ n. elem n (all_symbols es))) e)
      → count e (all_nodes (a.results ++ bound_exprs a.inters)) ≤ 1
  unfolding no_repeats
  single h = h

-- for any rows and roots, and whatever is lent with them
pub returned_as_demanded : (rows roots : List ℕ) (calls : Calls rows roots) → ReturnedAsDemanded rows roots calls
returned_as_demanded rows roots calls =
    let es = list_of rows roots in
    record {
      list_passes = λ scoped a r. (returned_is scoped rows roots (calls scoped) a r).1;
      is_answer = λ scoped a r. (returned_is scoped rows roots (calls scoped) a r).0;
      returned_where = λ scoped. operations.returned_where scoped rows roots (calls scoped);
      bound_once = λ scoped a r. once es a ((holds scoped a r).names_once_and_later scoped a (given scoped a r));
      used_later_in_scope = λ scoped a r. later es a ((holds scoped a r).names_once_and_later scoped a (given scoped a r));
      same_values = λ scoped a r. (holds scoped a r).same_values scoped a (given scoped a r);
      only_lets = λ a r. (holds false a r).only_lets a (given false a r);
      none_twice = λ a r. single es a ((holds false a r).none_twice a (given false a r));
      counted = λ a r. (holds false a r).count_right a (given false a r);
      count_bounded = λ a r. (holds false a r).count_at_most a (given false a r);
    }
  where
    given : (scoped : Bool) (a : Answer) → Returns scoped rows roots (calls scoped) a → answer scoped (list_of rows roots) ≡ ok a
    given scoped a r = (returned_is scoped rows roots (calls scoped) a r).0

    holds : (scoped : Bool) (a : Answer) → Returns scoped rows roots (calls scoped) a → Demand3 (list_of rows roots)
    holds scoped a r = demand3 (list_of rows roots) (returned_is scoped rows roots (calls scoped) a r).1
