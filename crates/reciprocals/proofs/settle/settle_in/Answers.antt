-- `reciprocals::settle::settle_in` meets its contract: the words are copied to an area, settled there and copied back. Assumes nothing.
use native.Mathlib.Omega.{arith}
use mathlib.Core.Path.{sym, ◌∙◌, subst}
use lib.Seq.{length-take-le}
use borrow.Author.Rules.{rules}
use Rattle.words.specs.words.Words.{Complete}
use Rattle.reciprocals.proofs.settle.Settling.{copied_front, unsettled, in_area, goes_back, settled_so, some_steps, no_steps}
use Rattle.reciprocals.proofs.settle.settle_in.Goals as goal

pub copy-requires : goal.copy-requires
copy-requires c = let a = c.args in omega (arith, length-take-le a.len a.tokens.now c.requires.len_in_bounds.0, c.requires.len_in_bounds_2.0)

pub steps-requires : goal.steps-requires
steps-requires c =
    let a = c.args in
    record {
      len_in_bounds = (omega (arith, c.copy.auto.out, c.requires.len_in_bounds_2.0), subst Complete (sym (copied_front a.base.now a.places.now a.from a.first a.tokens.now a.len c.requires.len_in_bounds.0 c.requires.len_in_bounds.1 c.requires.len_bound.0 c.requires.len_bound.1 c.requires.len_bound.2 _ _ c.copy.ensures)) c.requires.len_in_bounds.1);
      first_bound = (c.requires.len_bound.1, c.requires.len_bound.2);
      work_in_bounds = omega (arith, c.copy.auto.out, c.requires.len_in_bounds_2.1);
    }

pub returns-in_err-n : goal.returns-in_err-n
returns-in_err-n c =
    let a = c.args in
    let e = unsettled a.base.now a.places.now a.from a.first a.tokens.now a.len c.requires.len_in_bounds.0 c.requires.len_in_bounds.1 c.requires.len_bound.0 c.requires.len_bound.1 c.requires.len_bound.2 _ _ c.copy.ensures (no_steps _ _ _ c.ok_or.ensures.value c.in_err-n.was ∙ c.steps.ensures.value) in
    search rules

pub slice_bounds-copy-end-3 : goal.slice_bounds-copy-end-3
slice_bounds-copy-end-3 c = let a = c.args in in_area a.base.now a.places.now a.from a.first a.tokens.now a.len c.requires.len_in_bounds.0 c.requires.len_in_bounds.1 c.requires.len_bound.0 c.requires.len_bound.1 c.requires.len_bound.2 _ _ c.copy.ensures _ _ (some_steps _ _ c.in_ok-n.n c.ok_or.ensures.value c.in_ok-n.was ∙ c.steps.ensures.value) c.steps.ensures.front

pub slice_bounds-copy-end-4 : goal.slice_bounds-copy-end-4
slice_bounds-copy-end-4 c = let a = c.args in sym (length-take-le c.in_ok-n.n _ (in_area a.base.now a.places.now a.from a.first a.tokens.now a.len c.requires.len_in_bounds.0 c.requires.len_in_bounds.1 c.requires.len_bound.0 c.requires.len_bound.1 c.requires.len_bound.2 _ _ c.copy.ensures _ _ (some_steps _ _ c.in_ok-n.n c.ok_or.ensures.value c.in_ok-n.was ∙ c.steps.ensures.value) c.steps.ensures.front))

pub copy-requires-2 : goal.copy-requires-2
copy-requires-2 c = let a = c.args in goes_back a.base.now a.places.now a.from a.first a.tokens.now a.len c.requires.len_in_bounds.0 c.requires.len_in_bounds.1 c.requires.len_bound.0 c.requires.len_bound.1 c.requires.len_bound.2 _ _ c.copy.ensures _ _ (some_steps _ _ c.in_ok-n.n c.ok_or.ensures.value c.in_ok-n.was ∙ c.steps.ensures.value) c.steps.ensures.front

pub returns : goal.returns
returns c = let a = c.args in settled_so a.base.now a.places.now a.from a.first a.tokens.now a.len c.requires.len_in_bounds.0 c.requires.len_in_bounds.1 c.requires.len_bound.0 c.requires.len_bound.1 c.requires.len_bound.2 _ _ c.copy.ensures _ _ (some_steps _ _ c.in_ok-n.n c.ok_or.ensures.value c.in_ok-n.was ∙ c.steps.ensures.value) c.steps.ensures.front _ c.copy-2.ensures
