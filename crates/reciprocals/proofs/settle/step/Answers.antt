-- `reciprocals::settle::step` meets its contract: the divisor is a tree of the base, so the words can be rewritten by it. Assumes nothing.
use native.Mathlib.Omega.{arith}
use mathlib.Core.Path.{sym, ◌∙◌}
use lib.ListN.{length, take}
use lib.Seq.{length-take-le}
use Rattle.reciprocals.proofs.settle.Stepping.{divisor_there, no_divisor, told, never_silent, goes_back, in_out, step_ends, stays_so}
use Rattle.words.proofs.words.Rewriting.{one_long}
use Rattle.reciprocals.proofs.settle.step.Goals as goal

pub returns-in_err-end : goal.returns-in_err-end
returns-in_err-end c =
    let a = c.args in
    let none = no_divisor a.base.now a.place a.name (take a.len a.work.now) a.work.now (sym c.in_err-end.was ∙ c.end_of.ensures) in
    record { value = c.from_residual.ensures ∙ none.0; front = none.1 }

pub offset_bounds-base-place : goal.offset_bounds-base-place
offset_bounds-base-place c = let d = divisor_there c.args.base.now c.args.place _ (sym c.in_ok-end.was ∙ c.end_of.ensures) in omega (arith, d.after, d.within, c.well_formed)

pub slice_bounds-divisor-count : goal.slice_bounds-divisor-count
slice_bounds-divisor-count c = let d = divisor_there c.args.base.now c.args.place _ (sym c.in_ok-end.was ∙ c.end_of.ensures) in d.after

pub slice_bounds-divisor-start : goal.slice_bounds-divisor-start
slice_bounds-divisor-start c = let d = divisor_there c.args.base.now c.args.place _ (sym c.in_ok-end.was ∙ c.end_of.ensures) in d.after

pub slice_bounds-divisor-end : goal.slice_bounds-divisor-end
slice_bounds-divisor-end c = let d = divisor_there c.args.base.now c.args.place _ (sym c.in_ok-end.was ∙ c.end_of.ensures) in d.within

pub stand_among-requires : goal.stand_among-requires
stand_among-requires c = let d = divisor_there c.args.base.now c.args.place _ (sym c.in_ok-end.was ∙ c.end_of.ensures) in one_long _ d.one

pub returns-then-not-stand_among : goal.returns-then-not-stand_among
returns-then-not-stand_among c =
    let d = divisor_there c.args.base.now c.args.place _ (sym c.in_ok-end.was ∙ c.end_of.ensures) in
    let stays = stays_so c.args.base.now c.args.place _ c.args.name c.args.len c.args.work.now d c.requires.len_in_bounds.0 c.requires.len_in_bounds.1 _ c.stand_among.ensures c.if-not-stand_among.true in
    record { value = stays.0; front = stays.1 }

pub returns-in_err-n : goal.returns-in_err-n
returns-in_err-n c =
    let d = divisor_there c.args.base.now c.args.place _ (sym c.in_ok-end.was ∙ c.end_of.ensures) in
    let l = length-take-le c.args.len c.args.work.now c.requires.len_in_bounds.0 in
    absurd (never_silent c.args.base.now c.args.place _ c.args.name (take c.args.len c.args.work.now) c.args.spare.now d c.requires.len_in_bounds.1 c.requires.name_value.0 (omega (arith, l, c.requires.len_in_bounds.0, c.requires.name_value.1)) c.replace_divisor.result c.ok.result c.replace_divisor.ensures.0 c.ok.ensures.value c.in_err-n.was)

pub slice_bounds-copy-end : goal.slice_bounds-copy-end
slice_bounds-copy-end c =
    let d = divisor_there c.args.base.now c.args.place _ (sym c.in_ok-end.was ∙ c.end_of.ensures) in
    let l = length-take-le c.args.len c.args.work.now c.requires.len_in_bounds.0 in
    let t = told c.args.base.now c.args.place _ c.args.name (take c.args.len c.args.work.now) c.args.spare.now d c.requires.len_in_bounds.1 c.requires.name_value.0 (omega (arith, l, c.requires.len_in_bounds.0, c.requires.name_value.1)) c.replace_divisor.result c.ok.result c.in_ok-n.n c.replace_divisor.ensures.0 c.ok.ensures.value c.in_ok-n.was in
    in_out c.args.base.now c.args.place _ c.args.name (take c.args.len c.args.work.now) c.args.spare.now d c.requires.len_in_bounds.1 c.requires.name_value.0 (omega (arith, l, c.requires.len_in_bounds.0, c.requires.name_value.1)) _ _ t c.replace_divisor.ensures.1

pub slice_bounds-copy-end-2 : goal.slice_bounds-copy-end-2
slice_bounds-copy-end-2 c =
    let d = divisor_there c.args.base.now c.args.place _ (sym c.in_ok-end.was ∙ c.end_of.ensures) in
    let l = length-take-le c.args.len c.args.work.now c.requires.len_in_bounds.0 in
    let t = told c.args.base.now c.args.place _ c.args.name (take c.args.len c.args.work.now) c.args.spare.now d c.requires.len_in_bounds.1 c.requires.name_value.0 (omega (arith, l, c.requires.len_in_bounds.0, c.requires.name_value.1)) c.replace_divisor.result c.ok.result c.in_ok-n.n c.replace_divisor.ensures.0 c.ok.ensures.value c.in_ok-n.was in
    sym (length-take-le _ _ (in_out c.args.base.now c.args.place _ c.args.name (take c.args.len c.args.work.now) c.args.spare.now d c.requires.len_in_bounds.1 c.requires.name_value.0 (omega (arith, l, c.requires.len_in_bounds.0, c.requires.name_value.1)) _ _ t c.replace_divisor.ensures.1))

pub copy-requires : goal.copy-requires
copy-requires c =
    let d = divisor_there c.args.base.now c.args.place _ (sym c.in_ok-end.was ∙ c.end_of.ensures) in
    let l = length-take-le c.args.len c.args.work.now c.requires.len_in_bounds.0 in
    let t = told c.args.base.now c.args.place _ c.args.name (take c.args.len c.args.work.now) c.args.spare.now d c.requires.len_in_bounds.1 c.requires.name_value.0 (omega (arith, l, c.requires.len_in_bounds.0, c.requires.name_value.1)) c.replace_divisor.result c.ok.result c.in_ok-n.n c.replace_divisor.ensures.0 c.ok.ensures.value c.in_ok-n.was in
    goes_back c.args.base.now c.args.place _ c.args.name (take c.args.len c.args.work.now) c.args.spare.now d c.requires.len_in_bounds.1 c.requires.name_value.0 (omega (arith, l, c.requires.len_in_bounds.0, c.requires.name_value.1)) _ (length c.args.work.now) _ t c.replace_divisor.ensures.1 (omega (arith, l, c.requires.len_in_bounds.0))

pub returns : goal.returns
returns c =
    let d = divisor_there c.args.base.now c.args.place _ (sym c.in_ok-end.was ∙ c.end_of.ensures) in
    let l = length-take-le c.args.len c.args.work.now c.requires.len_in_bounds.0 in
    let t = told c.args.base.now c.args.place _ c.args.name (take c.args.len c.args.work.now) c.args.spare.now d c.requires.len_in_bounds.1 c.requires.name_value.0 (omega (arith, l, c.requires.len_in_bounds.0, c.requires.name_value.1)) c.replace_divisor.result c.ok.result c.in_ok-n.n c.replace_divisor.ensures.0 c.ok.ensures.value c.in_ok-n.was in
    let ends = step_ends c.args.base.now c.args.place _ c.args.name (take c.args.len c.args.work.now) c.args.spare.now d c.requires.len_in_bounds.1 c.requires.name_value.0 (omega (arith, l, c.requires.len_in_bounds.0, c.requires.name_value.1)) _ _ c.args.work.now _ t c.replace_divisor.ensures.1 c.copy.ensures in
    record { value = ends.0; front = ends.1 }
