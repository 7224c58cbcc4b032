-- `fusion::switches::list_switches` meets its contract. Assumes nothing.
use borrow.Author.Rules.{rules}
use lib.ListN.{length}
use Rattle.fusion.proofs.Tests.{uncounted_by, counted_by}
use Rattle.fusion.proofs.switches.Giving.{marks_left, marks_refused, marks_accepted, broken, few_marks, listed}
use Rattle.fusion.proofs.switches.list_switches.Goals as goal

pub returns-then-is_none : goal.returns-then-is_none
returns-then-is_none c = broken c.args.tokens.now (length c.args.marks.now) c.args.places.now (uncounted_by c.args.tokens.now _ _ c.count_trees.ensures c.is_none.ensures c.if-is_none.true)

pub returns-in_err-mark_outside : goal.returns-in_err-mark_outside
returns-in_err-mark_outside c = let k = marks_refused c.args.tokens.now c.args.marks.now (counted_by c.args.tokens.now _ _ c.count_trees.ensures c.is_none.ensures c.if-is_none.false) c.mark_outside.result c.mark_outside.ensures.0 _ c.in_err-mark_outside.was in
    let e = few_marks c.args.tokens.now (length c.args.marks.now) c.args.places.now (counted_by c.args.tokens.now _ _ c.count_trees.ensures c.is_none.ensures c.if-is_none.false) k.1 in
    search rules

pub list-requires : goal.list-requires
list-requires c = ((counted_by c.args.tokens.now _ _ c.count_trees.ensures c.is_none.ensures c.if-is_none.false), marks_left c.args.tokens.now c.args.marks.now _ (marks_accepted c.args.tokens.now c.args.marks.now (counted_by c.args.tokens.now _ _ c.count_trees.ensures c.is_none.ensures c.if-is_none.false) c.mark_outside.result c.mark_outside.ensures.0 _ c.in_ok-mark_outside.was) (counted_by c.args.tokens.now _ _ c.count_trees.ensures c.is_none.ensures c.if-is_none.false) c.mark_outside.ensures.1)

pub returns : goal.returns
returns c = listed c.args.tokens.now (length c.args.marks.now) c.args.places.now (counted_by c.args.tokens.now _ _ c.count_trees.ensures c.is_none.ensures c.if-is_none.false) (marks_accepted c.args.tokens.now c.args.marks.now (counted_by c.args.tokens.now _ _ c.count_trees.ensures c.is_none.ensures c.if-is_none.false) c.mark_outside.result c.mark_outside.ensures.0 _ c.in_ok-mark_outside.was) _ _ c.list.ensures
