use Rattle.std.proofs.Common.{rules}
use native.Mathlib.Omega.{arith}
use mathlib.Core.Path.{sym, ◌∙◌}
use Rattle.spec_tree.specs.Tokens.{trees_in}
use Rattle.spec_tree.proofs.TokenLaws.{complete_within}
use Rattle.words.proofs.words.Requests.{counted, uncounted}
use Rattle.cse_flat.proofs.ending.Ends.{no_trees, too_few, not_there, all_are_there, too_long, too_many_names, all_have_room, goes_on}
use Rattle.cse_flat.proofs.ending.finish.Goals as goal
use Rattle.cse_flat.proofs.ending.finish.Goals.{then-results-count-via-then-results-count, then-results-count-via-else-results-count+then-not-all_there}
use Rattle.cse_flat.proofs.ending.finish.Goals.{then-tokens-gt-MOST-via-then-tokens-gt-MOST, then-tokens-gt-MOST-via-else-tokens-gt-MOST+then-places-count}

pub returns-in_default : goal.returns-in_default
returns-in_default c = let a = c.args in no_trees a.tokens.now a.results a.places.now a.table.now (uncounted (trees_in a.tokens.now) (sym c.in_default.is ∙ c.count_trees.ensures))

pub returns-then-results-count : goal.returns-then-results-count
returns-then-results-count c =
    let a = c.args in
    let e = counted c.in-Some.count (trees_in a.tokens.now) (sym c.in-Some.is ∙ c.count_trees.ensures) in
    elim c.then-results-count.branch [
      | then-results-count-via-then-results-count w ↦ too_few a.tokens.now a.results a.places.now a.table.now _ e w.if-results-count.true
      | then-results-count-via-else-results-count+then-not-all_there w ↦ not_there a.tokens.now a.results a.places.now a.table.now _ e w.if-results-count.false (sym w.all_there.ensures ∙ w.if-not-all_there.true)
    ]

pub overflow_sub-count-else-tokens-gt-MOST : goal.overflow_sub-count-else-tokens-gt-MOST
overflow_sub-count-else-tokens-gt-MOST c =
    let e = counted c.in-Some.count (trees_in c.args.tokens.now) (sym c.in-Some.is ∙ c.count_trees.ensures) in
    omega (arith, complete_within c.args.tokens.now c.in-Some.count e, c.if-tokens-gt-MOST.false)

pub returns-then-tokens-gt-MOST : goal.returns-then-tokens-gt-MOST
returns-then-tokens-gt-MOST c =
    let a = c.args in
    let e = counted c.in-Some.count (trees_in a.tokens.now) (sym c.in-Some.is ∙ c.count_trees.ensures) in
    let there = sym c.all_there.ensures ∙ c.if-not-all_there.false in
    elim c.then-tokens-gt-MOST.branch [
      | then-tokens-gt-MOST-via-then-tokens-gt-MOST w ↦ too_long a.tokens.now a.results a.places.now a.table.now _ e c.if-results-count.false there w.if-tokens-gt-MOST.true
      | then-tokens-gt-MOST-via-else-tokens-gt-MOST+then-places-count w ↦
          too_many_names a.tokens.now a.results a.places.now a.table.now _ e c.if-results-count.false there w.if-tokens-gt-MOST.false
          (omega (arith, complete_within a.tokens.now c.in-Some.count e, c.if-results-count.false, w.if-tokens-gt-MOST.false, w.if-places-count.true))
    ]

pub finish_there-requires-clause-there : goal.finish_there-requires-clause-there
finish_there-requires-clause-there c =
    let a = c.args in
    let e = counted c.in-Some.count (trees_in a.tokens.now) (sym c.in-Some.is ∙ c.count_trees.ensures) in
    let there = sym c.all_there.ensures ∙ c.if-not-all_there.false in (
      all_are_there a.tokens.now a.results a.places.now a.table.now _ e c.if-results-count.false there,
      all_have_room a.tokens.now a.results a.places.now a.table.now _ e c.if-results-count.false there c.if-tokens-gt-MOST.false
          (omega (arith, complete_within a.tokens.now c.in-Some.count e, c.if-results-count.false, c.if-tokens-gt-MOST.false, c.if-places-count.false)),
    )

pub finish_there-requires-clause-counted : goal.finish_there-requires-clause-counted
finish_there-requires-clause-counted c = counted c.in-Some.count (trees_in c.args.tokens.now) (sym c.in-Some.is ∙ c.count_trees.ensures)

pub returns-in_err-rows : goal.returns-in_err-rows
returns-in_err-rows c =
    let a = c.args in
    let e = counted c.in-Some.count (trees_in a.tokens.now) (sym c.in-Some.is ∙ c.count_trees.ensures) in
    let there = sym c.all_there.ensures ∙ c.if-not-all_there.false in
    let h = goes_on a.tokens.now a.results a.places.now a.table.now _ e c.if-results-count.false there c.if-tokens-gt-MOST.false
    (omega (arith, complete_within a.tokens.now c.in-Some.count e, c.if-results-count.false, c.if-tokens-gt-MOST.false, c.if-places-count.false)) _ _ c.in_err-rows.was _ c.finish_there.ensures in
    search rules

pub returns : goal.returns
returns c =
    let a = c.args in
    let e = counted c.in-Some.count (trees_in a.tokens.now) (sym c.in-Some.is ∙ c.count_trees.ensures) in
    let there = sym c.all_there.ensures ∙ c.if-not-all_there.false in
    goes_on a.tokens.now a.results a.places.now a.table.now _ e c.if-results-count.false there c.if-tokens-gt-MOST.false
    (omega (arith, complete_within a.tokens.now c.in-Some.count e, c.if-results-count.false, c.if-tokens-gt-MOST.false, c.if-places-count.false)) _ _ c.in_ok-rows.was _ c.finish_there.ensures
