-- `rounds::uses::mark_outside` meets its contract. Assumes nothing.
use mathlib.Core.Bool.{true, false}
use borrow.Author.Rules.{rules}
use Rattle.spec_tree.specs.Tokens.{trees_in}
use Rattle.words.proofs.words.Requests.{counted_ok, uncounted_err}
use Rattle.rounds.proofs.uses.Giving.{complete, gives_no_room, gives_broken, gives_done, flat_marked}
use Rattle.rounds.proofs.uses.Marking.{ones_filled}
use Rattle.rounds.proofs.uses.mark_outside.Goals as goal

pub returns-then-marks-tokens : goal.returns-then-marks-tokens
returns-then-marks-tokens c = (let a = c.args in gives_no_room a.tokens.now a.scoped a.marks.now c.if-marks-tokens.true)

pub returns-in_err-ok_or : goal.returns-in_err-ok_or
returns-in_err-ok_or c =
    let a = c.args in
    let e = gives_broken a.tokens.now a.scoped a.marks.now c.if-marks-tokens.false (uncounted_err (trees_in a.tokens.now) _ _ (rw c.count_trees.ensures at c.ok_or.ensures.value) c.in_err-ok_or.was) in
    search rules

pub mark_outside_arms-requires : goal.mark_outside_arms-requires
mark_outside_arms-requires c = (complete c.args.tokens.now _ (counted_ok _ (trees_in c.args.tokens.now) _ (rw c.count_trees.ensures at c.ok_or.ensures.value) c.in_ok-ok_or.was), c.if-marks-tokens.false)

pub returns-then-scoped : goal.returns-then-scoped
returns-then-scoped c = (let a = c.args in
    rw c.if-scoped.true (gives_done a.tokens.now true a.marks.now _ _ c.if-marks-tokens.false (counted_ok _ (trees_in c.args.tokens.now) _ (rw c.count_trees.ensures at c.ok_or.ensures.value) c.in_ok-ok_or.was) c.mark_outside_arms.ensures))

pub returns-else-scoped : goal.returns-else-scoped
returns-else-scoped c = (let a = c.args in
    rw c.if-scoped.false
    (gives_done a.tokens.now false a.marks.now _ _ c.if-marks-tokens.false (counted_ok _ (trees_in c.args.tokens.now) _ (rw c.count_trees.ensures at c.ok_or.ensures.value) c.in_ok-ok_or.was)
    (flat_marked a.tokens.now a.marks.now _ (ones_filled a.marks.now c.fill.new.self _ c.if-marks-tokens.false (c.fill.ensures.after (λ y e. e))))))
