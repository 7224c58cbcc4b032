-- `replace::rewrite` and `replace::rewrite_product` meet their contracts. They fall by the words that are rewritten. Assumes nothing.
use Rattle.std.specs.Prelude.{Ok}
use mathlib.Core.Path.{ap}
use Rattle.std.proofs.Common.{◌+◌, ◌-◌, refl, ◌∙◌, arith}
use Rattle.words.proofs.words.Rewriting.{one_long}
use Rattle.replace.specs.replacing.Replacing.{head_words}
use Rattle.replace.proofs.replacing.Scanning.{scan_ends}
use Rattle.replace.proofs.replacing.Factoring.{factor_starts, names_room, factor_ends}
use Rattle.replace.proofs.Rewriting.{from_long, head_self, wrote_from, left_from, asked_trees, asked_some, by_equal, by_stays, by_passed, by_refused, match_asked, long_fits, lent_fits, by_product, by_product_refused, there_is, writes_left, end_within, slice_trees, slice_falls, scratch_fits, room_fits, by_factor, by_factor_refused}
use Rattle.replace.proofs.+rewrite_rewrite_product.Goals as goal

pub rewrite-decide-requires : goal.rewrite-decide-requires
rewrite-decide-requires t c = let a = c.args in
    record { tokens_nonzero = (asked_some a.tokens.now a.rule.target.now a.rule.name a.out.now c.requires.trees.0 c.requires.trees.1 c.requires.tokens_in_bounds.1 c.loop-i.out c.loop-i.i c.loop-i.o c.loop-i.invariant.0 c.loop-i-test.true, asked_trees a.tokens.now a.rule.target.now a.rule.name a.out.now c.requires.trees.0 c.requires.trees.1 c.requires.tokens_in_bounds.1 c.loop-i.out c.loop-i.i c.loop-i.o c.loop-i.invariant.0 c.loop-i-test.true, c.requires.trees.1); sought_value = (c.requires.trees.2, omega (arith, from_long a.tokens.now c.loop-i.i, c.loop-i.invariant.1, c.requires.tokens_in_bounds.0)) }

pub rewrite-loop-i-smaller-in-Equal : goal.rewrite-loop-i-smaller-in-Equal
rewrite-loop-i-smaller-in-Equal t c = let a = c.args in omega (arith, c.loop-i-test.true, one_long a.rule.target.now c.requires.trees.1.one)

pub rewrite-loop-i-preserved-in-Equal : goal.rewrite-loop-i-preserved-in-Equal
rewrite-loop-i-preserved-in-Equal t c = let a = c.args in (by_equal a.tokens.now a.rule.target.now a.rule.name a.out.now c.requires.trees.0 c.requires.trees.1 c.requires.tokens_in_bounds.1 c.loop-i.out c.loop-i.i c.loop-i.o c.loop-i.invariant.0 c.loop-i-test.true c.decide.new.places c.decide.result c.decide.ensures (c.in_ok-decide.was ∙ ap Ok c.in-Equal.is), c.decide.auto.places ∙ c.loop-i.invariant.1)

pub rewrite-loop-i-preserved-in-Stays : goal.rewrite-loop-i-preserved-in-Stays
rewrite-loop-i-preserved-in-Stays t c = let a = c.args in (by_stays a.tokens.now a.rule.target.now a.rule.name a.out.now c.requires.trees.0 c.requires.trees.1 c.requires.tokens_in_bounds.1 c.loop-i.out c.loop-i.i c.loop-i.o c.loop-i.invariant.0 c.loop-i-test.true c.decide.new.places c.decide.result c.decide.ensures (c.in_ok-decide.was ∙ ap Ok c.in-Stays.is), c.decide.auto.places ∙ c.loop-i.invariant.1)

pub rewrite-loop-i-preserved-in-Passed : goal.rewrite-loop-i-preserved-in-Passed
rewrite-loop-i-preserved-in-Passed t c = let a = c.args in (by_passed a.tokens.now a.rule.target.now a.rule.name a.out.now c.requires.trees.0 c.requires.trees.1 c.requires.tokens_in_bounds.1 c.loop-i.out c.loop-i.i c.loop-i.o c.loop-i.invariant.0 c.loop-i-test.true c.decide.new.places c.decide.result c.decide.ensures _ (c.in_ok-decide.was ∙ ap Ok c.in-Passed.is) c.copy.new.out c.copy.ensures, c.decide.auto.places ∙ c.loop-i.invariant.1)

pub rewrite-rewrite_product-requires : goal.rewrite-rewrite_product-requires
rewrite-rewrite_product-requires t c = let a = c.args in let f = long_fits a.tokens.now a.rule.target.now a.rule.name a.out.now c.requires.trees.0 c.requires.trees.1 c.requires.tokens_in_bounds.1 c.loop-i.out c.loop-i.i c.loop-i.o c.loop-i.invariant.0 c.loop-i-test.true c.decide.new.places c.decide.result c.decide.ensures _ (c.in_ok-decide.was ∙ ap Ok c.in-Matched.is) in
    (omega (arith, f, c.decreases), ((asked_trees a.tokens.now a.rule.target.now a.rule.name a.out.now c.requires.trees.0 c.requires.trees.1 c.requires.tokens_in_bounds.1 c.loop-i.out c.loop-i.i c.loop-i.o c.loop-i.invariant.0 c.loop-i-test.true, c.requires.trees.1, c.requires.trees.2), (match_asked a.tokens.now a.rule.target.now a.rule.name a.out.now c.requires.trees.0 c.requires.trees.1 c.requires.tokens_in_bounds.1 c.loop-i.out c.loop-i.i c.loop-i.o c.loop-i.invariant.0 c.loop-i-test.true c.decide.new.places c.decide.result c.decide.ensures _ (c.in_ok-decide.was ∙ ap Ok c.in-Matched.is), (omega (arith, f, c.requires.tokens_in_bounds.0, c.decide.auto.places, c.loop-i.invariant.1), lent_fits a.tokens.now a.rule.target.now a.rule.name a.out.now c.requires.trees.0 c.requires.trees.1 c.requires.tokens_in_bounds.1 c.loop-i.out c.loop-i.i c.loop-i.o c.loop-i.invariant.0 c.loop-i-test.true c.decide.new.places c.decide.result c.decide.ensures _ (c.in_ok-decide.was ∙ ap Ok c.in-Matched.is)))))

pub rewrite-returns-in_err-n-in-Matched : goal.rewrite-returns-in_err-n-in-Matched
rewrite-returns-in_err-n-in-Matched t c = let a = c.args in let e = by_product_refused a.tokens.now a.rule.target.now a.rule.name a.out.now c.requires.trees.0 c.requires.trees.1 c.requires.tokens_in_bounds.1 c.loop-i.out c.loop-i.i c.loop-i.o c.loop-i.invariant.0 c.loop-i-test.true c.decide.new.places c.decide.result c.decide.ensures _ (c.in_ok-decide.was ∙ ap Ok c.in-Matched.is) c.rewrite_product.new.out c.rewrite_product.auto.out c.rewrite_product.result c.rewrite_product.ensures _ c.in_err-n-in-Matched.was in
    writes_left _ _ _ _ _ c.from_residual-in_err-n-in-Matched.ensures.0 e

pub rewrite-overflow_add-i-in-Matched : goal.rewrite-overflow_add-i-in-Matched
rewrite-overflow_add-i-in-Matched t c = let a = c.args in omega (arith, long_fits a.tokens.now a.rule.target.now a.rule.name a.out.now c.requires.trees.0 c.requires.trees.1 c.requires.tokens_in_bounds.1 c.loop-i.out c.loop-i.i c.loop-i.o c.loop-i.invariant.0 c.loop-i-test.true c.decide.new.places c.decide.result c.decide.ensures _ (c.in_ok-decide.was ∙ ap Ok c.in-Matched.is), c.well_formed)

pub rewrite-loop-i-preserved : goal.rewrite-loop-i-preserved
rewrite-loop-i-preserved t c = let a = c.args in (by_product a.tokens.now a.rule.target.now a.rule.name a.out.now c.requires.trees.0 c.requires.trees.1 c.requires.tokens_in_bounds.1 c.loop-i.out c.loop-i.i c.loop-i.o c.loop-i.invariant.0 c.loop-i-test.true c.decide.new.places c.decide.result c.decide.ensures _ (c.in_ok-decide.was ∙ ap Ok c.in-Matched.is) c.rewrite_product.new.out c.rewrite_product.auto.out c.rewrite_product.result c.rewrite_product.ensures _ c.in_ok-n-in-Matched.was, c.rewrite_product.auto.places ∙ c.decide.auto.places ∙ c.loop-i.invariant.1)

pub rewrite-returns-in_err-decide : goal.rewrite-returns-in_err-decide
rewrite-returns-in_err-decide t c = let a = c.args in let e = by_refused a.tokens.now a.rule.target.now a.rule.name a.out.now c.requires.trees.0 c.requires.trees.1 c.requires.tokens_in_bounds.1 c.loop-i.out c.loop-i.i c.loop-i.o c.loop-i.invariant.0 c.loop-i-test.true c.decide.new.places c.decide.result c.decide.ensures _ c.in_err-decide.was in
    writes_left _ _ _ _ _ c.from_residual.ensures.0 e

pub rewrite-returns : goal.rewrite-returns
rewrite-returns t c = let a = c.args in scan_ends a.rule.target.now a.rule.name a.tokens.now a.out.now c.loop-i.invariant.0 c.loop-i-test.false

pub rewrite_product-loop-j-init : goal.rewrite_product-loop-j-init
rewrite_product-loop-j-init t c = let a = c.args in (c.requires.trees.0, c.requires.trees.1, c.requires.cases, factor_starts a.rule.target.now a.rule.name c.requires.trees.1 a.tokens.now c.requires.trees.0 a.places.now a.product.left a.product.copies a.product.code a.product.long c.requires.cases c.write_head-o.new.out c.write_head-o.result c.write_head-o.new.out c.write_head-o.ensures.0 (head_self a.out.now c.write_head-o.new.out (head_words c.args.product.code (c.args.product.left + c.args.product.copies - 1)) c.write_head-o.ensures.1) refl)

pub rewrite_product-tree_end-end-requires : goal.rewrite_product-tree_end-end-requires
rewrite_product-tree_end-end-requires t c = let a = c.args in let v = c.loop-j.invariant in there_is a.rule.target.now a.rule.name v.1 a.tokens.now v.0 a.places.now a.product.left a.product.copies a.product.code a.product.long v.2 c.write_head-o.new.out c.requires.long_in_bounds.0 (omega (arith, c.requires.long_in_bounds.1, c.write_head-o.auto.out)) c.loop-j.out c.loop-j.places c.loop-j.o c.loop-j.j v.3 c.loop-j-test.true

pub rewrite_product-offset_bounds-tokens-at : goal.rewrite_product-offset_bounds-tokens-at
rewrite_product-offset_bounds-tokens-at t c = omega (arith, c.well_formed, (let a = c.args in let v = c.loop-j.invariant in (end_within a.rule.target.now a.rule.name v.1 a.tokens.now v.0 a.places.now a.product.left a.product.copies a.product.code a.product.long v.2 c.write_head-o.new.out c.requires.long_in_bounds.0 (omega (arith, c.requires.long_in_bounds.1, c.write_head-o.auto.out)) c.loop-j.out c.loop-j.places c.loop-j.o c.loop-j.j v.3 c.loop-j-test.true _ c.tree_end-end.ensures).0), (let a = c.args in let v = c.loop-j.invariant in (end_within a.rule.target.now a.rule.name v.1 a.tokens.now v.0 a.places.now a.product.left a.product.copies a.product.code a.product.long v.2 c.write_head-o.new.out c.requires.long_in_bounds.0 (omega (arith, c.requires.long_in_bounds.1, c.write_head-o.auto.out)) c.loop-j.out c.loop-j.places c.loop-j.o c.loop-j.j v.3 c.loop-j-test.true _ c.tree_end-end.ensures).1))

pub rewrite_product-slice_bounds-rewrite-count : goal.rewrite_product-slice_bounds-rewrite-count
rewrite_product-slice_bounds-rewrite-count t c = omega (arith, (let a = c.args in let v = c.loop-j.invariant in (end_within a.rule.target.now a.rule.name v.1 a.tokens.now v.0 a.places.now a.product.left a.product.copies a.product.code a.product.long v.2 c.write_head-o.new.out c.requires.long_in_bounds.0 (omega (arith, c.requires.long_in_bounds.1, c.write_head-o.auto.out)) c.loop-j.out c.loop-j.places c.loop-j.o c.loop-j.j v.3 c.loop-j-test.true _ c.tree_end-end.ensures).0))

pub rewrite_product-slice_bounds-rewrite-start : goal.rewrite_product-slice_bounds-rewrite-start
rewrite_product-slice_bounds-rewrite-start t c = (let a = c.args in let v = c.loop-j.invariant in (end_within a.rule.target.now a.rule.name v.1 a.tokens.now v.0 a.places.now a.product.left a.product.copies a.product.code a.product.long v.2 c.write_head-o.new.out c.requires.long_in_bounds.0 (omega (arith, c.requires.long_in_bounds.1, c.write_head-o.auto.out)) c.loop-j.out c.loop-j.places c.loop-j.o c.loop-j.j v.3 c.loop-j-test.true _ c.tree_end-end.ensures).0)

pub rewrite_product-slice_bounds-rewrite-end : goal.rewrite_product-slice_bounds-rewrite-end
rewrite_product-slice_bounds-rewrite-end t c = (let a = c.args in let v = c.loop-j.invariant in (end_within a.rule.target.now a.rule.name v.1 a.tokens.now v.0 a.places.now a.product.left a.product.copies a.product.code a.product.long v.2 c.write_head-o.new.out c.requires.long_in_bounds.0 (omega (arith, c.requires.long_in_bounds.1, c.write_head-o.auto.out)) c.loop-j.out c.loop-j.places c.loop-j.o c.loop-j.j v.3 c.loop-j-test.true _ c.tree_end-end.ensures).1)

pub rewrite_product-rewrite-requires : goal.rewrite_product-rewrite-requires
rewrite_product-rewrite-requires t c = (omega (arith, (let a = c.args in let v = c.loop-j.invariant in slice_falls a.rule.target.now a.rule.name v.1 a.tokens.now v.0 a.places.now a.product.left a.product.copies a.product.code a.product.long v.2 c.write_head-o.new.out c.requires.long_in_bounds.0 (omega (arith, c.requires.long_in_bounds.1, c.write_head-o.auto.out)) c.loop-j.out c.loop-j.places c.loop-j.o c.loop-j.j v.3 c.loop-j-test.true _ c.tree_end-end.ensures), c.decreases), (((let a = c.args in let v = c.loop-j.invariant in slice_trees a.rule.target.now a.rule.name v.1 a.tokens.now v.0 a.places.now a.product.left a.product.copies a.product.code a.product.long v.2 c.write_head-o.new.out c.requires.long_in_bounds.0 (omega (arith, c.requires.long_in_bounds.1, c.write_head-o.auto.out)) c.loop-j.out c.loop-j.places c.loop-j.o c.loop-j.j v.3 c.loop-j-test.true _ c.tree_end-end.ensures), c.requires.trees.1, c.requires.trees.2), ((let a = c.args in let v = c.loop-j.invariant in scratch_fits a.rule.target.now a.rule.name v.1 a.tokens.now v.0 a.places.now a.product.left a.product.copies a.product.code a.product.long v.2 c.write_head-o.new.out c.requires.long_in_bounds.0 (omega (arith, c.requires.long_in_bounds.1, c.write_head-o.auto.out)) c.loop-j.out c.loop-j.places c.loop-j.o c.loop-j.j v.3 c.loop-j-test.true _ c.tree_end-end.ensures), (let a = c.args in let v = c.loop-j.invariant in room_fits a.rule.target.now a.rule.name v.1 a.tokens.now v.0 a.places.now a.product.left a.product.copies a.product.code a.product.long v.2 c.write_head-o.new.out c.requires.long_in_bounds.0 (omega (arith, c.requires.long_in_bounds.1, c.write_head-o.auto.out)) c.loop-j.out c.loop-j.places c.loop-j.o c.loop-j.j v.3 c.loop-j-test.true _ c.tree_end-end.ensures))))

pub rewrite_product-returns-in_err-n : goal.rewrite_product-returns-in_err-n
rewrite_product-returns-in_err-n t c = let e = left_from c.args.out.now c.write_head-o.new.out (head_words c.args.product.code (c.args.product.left + c.args.product.copies - 1)) c.write_head-o.ensures.1 (omega (arith, c.loop-j.invariant.2.room)) (let a = c.args in let v = c.loop-j.invariant in by_factor_refused a.rule.target.now a.rule.name v.1 a.tokens.now v.0 a.places.now a.product.left a.product.copies a.product.code a.product.long v.2 c.write_head-o.new.out c.requires.long_in_bounds.0 (omega (arith, c.requires.long_in_bounds.1, c.write_head-o.auto.out)) c.loop-j.out c.loop-j.places c.loop-j.o c.loop-j.j v.3 c.loop-j-test.true _ c.tree_end-end.ensures c.rewrite.new.out c.rewrite.new.places c.rewrite.auto.out c.rewrite.auto.places c.rewrite.result c.rewrite.ensures _ c.in_err-n.was) in
    writes_left _ _ _ _ _ c.from_residual.ensures.0 e

pub rewrite_product-loop-j-preserved : goal.rewrite_product-loop-j-preserved
rewrite_product-loop-j-preserved t c = let v = c.loop-j.invariant in (v.0, v.1, v.2, (let a = c.args in let v = c.loop-j.invariant in by_factor a.rule.target.now a.rule.name v.1 a.tokens.now v.0 a.places.now a.product.left a.product.copies a.product.code a.product.long v.2 c.write_head-o.new.out c.requires.long_in_bounds.0 (omega (arith, c.requires.long_in_bounds.1, c.write_head-o.auto.out)) c.loop-j.out c.loop-j.places c.loop-j.o c.loop-j.j v.3 c.loop-j-test.true _ c.tree_end-end.ensures c.rewrite.new.out c.rewrite.new.places c.rewrite.auto.out c.rewrite.auto.places c.rewrite.result c.rewrite.ensures _ c.in_ok-n.was))

pub rewrite_product-put_repeated-requires : goal.rewrite_product-put_repeated-requires
rewrite_product-put_repeated-requires t c = let a = c.args in let v = c.loop-j.invariant in names_room a.rule.target.now a.rule.name v.1 a.tokens.now v.0 a.places.now a.product.left a.product.copies a.product.code a.product.long v.2 c.write_head-o.new.out v.3 c.loop-j-test.false (omega (arith, c.requires.long_in_bounds.1, c.write_head-o.auto.out))

pub rewrite_product-returns : goal.rewrite_product-returns
rewrite_product-returns t c = wrote_from c.args.out.now c.write_head-o.new.out (head_words c.args.product.code (c.args.product.left + c.args.product.copies - 1)) c.write_head-o.ensures.1 (omega (arith, c.loop-j.invariant.3.many)) (let a = c.args in let v = c.loop-j.invariant in factor_ends a.rule.target.now a.rule.name v.1 a.tokens.now v.0 a.places.now a.product.left a.product.copies a.product.code a.product.long v.2 c.write_head-o.new.out v.3 c.loop-j-test.false (omega (arith, c.requires.long_in_bounds.1, c.write_head-o.auto.out)) c.put_repeated.new.out c.put_repeated.ensures)
