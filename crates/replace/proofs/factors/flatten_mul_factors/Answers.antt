-- `replace::factors::flatten_mul_factors` meets its contract. Assumes nothing.
use Rattle.replace.proofs.factors.Answering.{end_ok, end_err}
use Rattle.std.proofs.Common.{arith, rules}
use Rattle.words.proofs.tokens.Comparing.{run_after}
use Rattle.replace.proofs.factors.Answering.{answers_broken, answers_no_room, answers_product, stands_there, long_is}
use Rattle.replace.proofs.factors.flatten_mul_factors.Goals as goal

pub returns-in_err-end : goal.returns-in_err-end
returns-in_err-end c = let a = c.args in
    let e = answers_broken a.tokens.now a.at a.places.now (end_err _ _ _ (rw c.end_of.ensures at c.ok_or.ensures.value) c.in_err-end.was) in
    search rules

pub overflow_sub-end : goal.overflow_sub-end
overflow_sub-end c = let a = c.args in run_after a.tokens.now a.at _ (end_ok _ _ _ (rw c.end_of.ensures at c.ok_or.ensures.value) c.in_ok-end.was)

pub returns-then-places-end : goal.returns-then-places-end
returns-then-places-end c = let a = c.args in answers_no_room a.tokens.now a.at a.places.now _ (end_ok _ _ _ (rw c.end_of.ensures at c.ok_or.ensures.value) c.in_ok-end.was) c.if-places-end.true

pub flatten_tree-requires : goal.flatten_tree-requires
flatten_tree-requires c = let a = c.args in
    let p = end_ok _ _ _ (rw c.end_of.ensures at c.ok_or.ensures.value) c.in_ok-end.was in
    record { stands = stands_there a.tokens.now a.at a.places.now _ p; at_in_bounds = omega (arith, long_is a.tokens.now a.at a.places.now _ p, c.if-places-end.false) }

pub returns : goal.returns
returns c = let a = c.args in
    let p = end_ok _ _ _ (rw c.end_of.ensures at c.ok_or.ensures.value) c.in_ok-end.was in
    answers_product a.tokens.now a.at a.places.now _ p _ _ _ (omega (arith, c.if-places-end.false)) c.flatten_tree.ensures.0
