-- The end of flat extraction from the order of its bindings: refused with 11 where some are never taken, and otherwise the entries' rows where as many are lent.
-- Assumes nothing.
use Prim.Native.Nat.{ℕ, ◌+◌, ◌-◌, ◌≤◌, ◌<◌}
use native.Mathlib.Omega.{arith}
use mathlib.Core.Path.{◌≡◌, sym, ◌∙◌, ap, ap₂}
use mathlib.Core.Bool.{cond}
use mathlib.Core.Option.{some}
use mathlib.Core.List.{List}
use lib.Dec.{ltb}
use lib.ListN.{length, get_or, take, drop, length-drop}
use Rattle.spec_tree.specs.Outcome.{Outcome, ok, refused, by, ◌>>=◌}
use Rattle.spec_tree.specs.Tree.{Tree}
use Rattle.spec_tree.specs.Tokens.{read, numbered, trees_in}
use Rattle.spec_tree.proofs.TokenLaws.{complete_length}
use Rattle.spec_cse.specs.Answer.{Intermediate, Answer}
use Rattle.spec_cse.specs.AnswerRows.{answer_words}
use Rattle.spec_cse.specs.Order.{at_each, topo_sort_intermediates}
use Rattle.spec_cse.specs.Scope.{Scoped, binds, unfused, finish, as_answer}
use Rattle.spec_cse.specs.Call.{Extracted}
use Rattle.laws.proofs.cse.RowCount.{answer_long}
use Rattle.words.specs.words.Words.{number}
use Rattle.laws.specs.positions.Rounds.{by_number, next_number, state_of}
use Rattle.reciprocals.proofs.bindings.Parts.{AllThere}
use Rattle.reciprocals.specs.final.Final.{final_trees, final_scope, rows_or_12, final_rows}
use Rattle.reciprocals.specs.final.Entries.{entries}
use Rattle.reciprocals.specs.final.Ready.{lent_rows}
use Rattle.reciprocals.proofs.final.Entering.{entries_are}
use Rattle.reciprocals.proofs.final.Trees.{final_read, final_count, lets_by_number}

-- the bindings after k results as statements
abbrev pub lets : ℕ → List Tree → List Intermediate
lets k F = binds (by_number 0 (drop k F))

-- in some order, with the results
abbrev pub scope_of : ℕ → List Tree → ℕ → List Intermediate → Scoped
scope_of k F made l = record { inters = l; results = take k F; next = next_number k 0 F; extracted = made }

module _ (lent : ℕ) where
  abbrev rows_of : Outcome Scoped → Outcome Extracted
  rows_of o = o >>= λ a. ok (as_answer a) >>= λ a. rows_or_12 lent a

  -- rows as words
  counted_rows : (a : Answer) → rows_or_12 lent a ≡ lent_rows lent (answer_words number a) a.extracted
  unfolding rows_or_12 lent_rows
  counted_rows a = ap (λ (n : ℕ). cond (ltb lent n) (refused (by 12)) (ok (record { words = answer_words number a; extracted = a.extracted }))) (sym (answer_long number a))

  module _ (k m : ℕ) (places ws : List ℕ) (complete : trees_in ws ≡ some m) (there : AllThere ws places) where
    abbrev F : List Tree
    F = final_trees k places ws

    scope_is : final_scope k places ws ≡ (topo_sort_intermediates (lets k F) >>= λ l. ok (scope_of k F (m - k) l))
    unfolding final_scope finish unfused state_of
    scope_is =
        let e : length (drop k (read numbered ws)) ≡ m - k = omega (arith, length-drop k (read numbered ws), complete_length numbered ws m complete) in
        ap₂ (λ (ts : List Tree) (x : ℕ). finish (unfused x (state_of k 0 ts))) (final_read k m places ws complete there) e

    rows_are : final_rows lent k places ws ≡ rows_of (topo_sort_intermediates (lets k F) >>= λ l. ok (scope_of k F (m - k) l))
    unfolding final_rows
    rows_are = ap rows_of scope_is

    pub ring_rows : topo_sort_intermediates (lets k F) ≡ refused (by 11) → final_rows lent k places ws ≡ refused (by 11)
    ring_rows e = rows_are ∙ ap (λ (o : Outcome (List Intermediate)). rows_of (o >>= λ l. ok (scope_of k F (m - k) l))) e

    pub all_rows :
        (taken : List ℕ) → topo_sort_intermediates (lets k F) ≡ ok (at_each (lets k F) taken) → ((q : ℕ) → q < length taken → get_or taken q 0 < length (lets k F)) → k ≤ m
        → final_rows lent k places ws ≡ lent_rows lent (entries k places ws taken (length taken + k)) (m - k)
    unfolding as_answer answer_words
    all_rows taken e h g =
        rows_are
        ∙ (ap (λ (o : Outcome (List Intermediate)). rows_of (o >>= λ l. ok (scope_of k F (m - k) l))) e
        ∙ (counted_rows (as_answer (scope_of k F (m - k) (at_each (lets k F) taken)))
        ∙ ap (λ (new : List ℕ). lent_rows lent new (m - k))
        (sym (entries_are k places ws taken (lets k F) (lets_by_number F k) h (omega (arith, final_count k m places ws complete there))))))
