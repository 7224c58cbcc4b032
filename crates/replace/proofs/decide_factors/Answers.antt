-- `replace::decide_factors` meets its contract. Assumes nothing.
use Rattle.replace.proofs.Deciding.{taken_there, code_none, code_some, decides_refused, some_long, taken_passed, taken_refused, taken_matched, fewer_names}
use Rattle.replace.proofs.decide_factors.Goals as goal

pub unwrap-taken-requires : goal.unwrap-taken-requires
unwrap-taken-requires c = let a = c.args in taken_there a.tokens.now a.rule.target.now a.rule.name _ _ a.places.now c.requires.product_first c.requires.flat_first.0 c.requires.tokens_in_bounds c.take_out.new.places c.take_out.result c.take_out.ensures

pub plain_words-requires : goal.plain_words-requires
plain_words-requires c = let a = c.args in let l = some_long c.requires.product_first a.flat.next c.requires.flat_first.1 in (l.0, l.1, c.requires.product_first.kind)

pub returns-then-taken-eq0 : goal.returns-then-taken-eq0
returns-then-taken-eq0 c = let a = c.args in taken_passed a.tokens.now a.rule.target.now a.rule.name _ _ a.places.now c.requires.product_first c.requires.flat_first.0 c.requires.tokens_in_bounds c.take_out.new.places c.unwrap-taken.result (rw c.unwrap-taken.ensures at c.take_out.ensures) c.if-taken-eq0.true a.flat.next c.requires.flat_first.1 c.plain_words.result c.plain_words.ensures

pub returns-in_err-code : goal.returns-in_err-code
returns-in_err-code c = let a = c.args in
    let e = taken_refused a.tokens.now a.rule.target.now a.rule.name _ _ a.places.now c.requires.product_first c.requires.flat_first.0 c.requires.tokens_in_bounds c.take_out.new.places c.unwrap-taken.result (rw c.unwrap-taken.ensures at c.take_out.ensures) c.if-taken-eq0.false (code_none _ _ _ _ (rw c.constant_of.ensures at c.ok_or.ensures.value) c.in_err-code.was) in
    decides_refused a.rule.target.now a.rule.name a.tokens.now _ _ c.from_residual.ensures.0 e

pub overflow_sub-result : goal.overflow_sub-result
overflow_sub-result c = let a = c.args in fewer_names a.tokens.now a.rule.target.now a.rule.name _ _ a.places.now c.requires.product_first c.requires.flat_first.0 c.requires.tokens_in_bounds c.take_out.new.places c.unwrap-taken.result (rw c.unwrap-taken.ensures at c.take_out.ensures) c.names_at_end-copies.result c.names_at_end-copies.ensures

pub returns : goal.returns
returns c = let a = c.args in
    taken_matched a.tokens.now a.rule.target.now a.rule.name _ _ a.places.now c.requires.product_first c.requires.flat_first.0 c.requires.tokens_in_bounds c.take_out.new.places c.unwrap-taken.result (rw c.unwrap-taken.ensures at c.take_out.ensures) c.if-taken-eq0.false _ (code_some _ _ _ _ (rw c.constant_of.ensures at c.ok_or.ensures.value) c.in_ok-code.was) a.flat.next c.requires.flat_first.1 c.names_at_end-copies.result c.names_at_end-copies.ensures
