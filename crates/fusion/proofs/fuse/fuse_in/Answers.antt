-- `fusion::fuse::fuse_in` meets its contract: the words are copied to an area, fused there and copied back. Assumes nothing.
use native.Mathlib.Omega.{arith}
use borrow.Author.Rules.{rules}
use mathlib.Core.Path.{sym, ◌∙◌, subst}
use lib.Seq.{length-take-le}
use Rattle.words.specs.words.Words.{Complete}
use Rattle.fusion.proofs.Tests.{none_by_err, some_by_ok}
use Rattle.fusion.proofs.fuse.Fusing.{copied_front, unfused, in_area, goes_back, fused_so}
use Rattle.fusion.proofs.fuse.fuse_in.Goals as goal

pub copy-requires : goal.copy-requires
copy-requires c = omega (arith, length-take-le c.args.len c.args.tokens.now c.requires.len_in_bounds.0, c.requires.len_in_bounds_2.0)

pub steps-requires : goal.steps-requires
steps-requires c = record {
  len_in_bounds = (omega (arith, c.copy.auto.out, c.requires.len_in_bounds_2.0), subst Complete (sym (copied_front c.args.base.now c.args.places.now c.args.numbers.now c.args.tokens.now c.args.len c.requires.len_in_bounds.0 c.requires.len_in_bounds.1 c.requires.len_in_bounds.2 c.requires.len_bound.0 (sym c.requires.len_bound.1) _ _ c.copy.ensures)) c.requires.len_in_bounds.1);
  places_in_bounds = (c.requires.len_in_bounds.2, c.requires.len_bound.1);
  work_in_bounds = omega (arith, c.copy.auto.out, c.requires.len_in_bounds_2.1);
}

pub returns-in_err-n : goal.returns-in_err-n
returns-in_err-n c = let k = none_by_err _ _ _ (sym c.ok_or.ensures.value ∙ c.in_err-n.was) in
    let u = unfused c.args.base.now c.args.places.now c.args.numbers.now c.args.tokens.now c.args.len c.requires.len_in_bounds.0 c.requires.len_in_bounds.1 c.requires.len_in_bounds.2 c.requires.len_bound.0 (sym c.requires.len_bound.1) _ _ c.copy.ensures (sym k.0 ∙ c.steps.ensures.value) in
    search rules

pub slice_bounds-copy-end-3 : goal.slice_bounds-copy-end-3
slice_bounds-copy-end-3 c = in_area c.args.base.now c.args.places.now c.args.numbers.now c.args.tokens.now c.args.len c.requires.len_in_bounds.0 c.requires.len_in_bounds.1 c.requires.len_in_bounds.2 c.requires.len_bound.0 (sym c.requires.len_bound.1) _ _ c.copy.ensures _ _ (sym (some_by_ok _ _ _ (sym c.ok_or.ensures.value ∙ c.in_ok-n.was)) ∙ c.steps.ensures.value) c.steps.ensures.front

pub slice_bounds-copy-end-4 : goal.slice_bounds-copy-end-4
slice_bounds-copy-end-4 c = sym (length-take-le _ _ (in_area c.args.base.now c.args.places.now c.args.numbers.now c.args.tokens.now c.args.len c.requires.len_in_bounds.0 c.requires.len_in_bounds.1 c.requires.len_in_bounds.2 c.requires.len_bound.0 (sym c.requires.len_bound.1) _ _ c.copy.ensures _ _ (sym (some_by_ok _ _ _ (sym c.ok_or.ensures.value ∙ c.in_ok-n.was)) ∙ c.steps.ensures.value) c.steps.ensures.front))

pub copy-requires-2 : goal.copy-requires-2
copy-requires-2 c = goes_back c.args.base.now c.args.places.now c.args.numbers.now c.args.tokens.now c.args.len c.requires.len_in_bounds.0 c.requires.len_in_bounds.1 c.requires.len_in_bounds.2 c.requires.len_bound.0 (sym c.requires.len_bound.1) _ _ c.copy.ensures _ _ (sym (some_by_ok _ _ _ (sym c.ok_or.ensures.value ∙ c.in_ok-n.was)) ∙ c.steps.ensures.value) c.steps.ensures.front

pub returns : goal.returns
returns c = fused_so c.args.base.now c.args.places.now c.args.numbers.now c.args.tokens.now c.args.len c.requires.len_in_bounds.0 c.requires.len_in_bounds.1 c.requires.len_in_bounds.2 c.requires.len_bound.0 (sym c.requires.len_bound.1) _ _ c.copy.ensures _ _ (sym (some_by_ok _ _ _ (sym c.ok_or.ensures.value ∙ c.in_ok-n.was)) ∙ c.steps.ensures.value) c.steps.ensures.front _ c.copy-2.ensures
