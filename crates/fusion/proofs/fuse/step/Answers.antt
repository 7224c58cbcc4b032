-- `fusion::fuse::step` meets its contract: the member is a tree of the base, so the words can be rewritten by it. Assumes nothing.
use native.Mathlib.Omega.{arith}
use mathlib.Core.Path.{sym, ◌∙◌}
use lib.ListN.{length, take}
use lib.Seq.{length-take-le}
use Rattle.reciprocals.proofs.settle.Stepping.{divisor_there}
use Rattle.fusion.proofs.Tests.{ok_by_some, no_ok_by_none}
use Rattle.fusion.proofs.fuse.Stepping.{no_member, answers, in_out, goes_back, step_ends}
use Rattle.fusion.proofs.fuse.step.Goals as goal

pub returns-in_err-end-clause-value : goal.returns-in_err-end-clause-value
returns-in_err-end-clause-value c = c.from_residual.ensures ∙ (no_member c.args.base.now c.args.place c.args.name (take c.args.len c.args.work.now) c.args.work.now (sym c.in_err-end.was ∙ c.end_of.ensures)).0

pub returns-in_err-end-clause-front : goal.returns-in_err-end-clause-front
returns-in_err-end-clause-front c = (no_member c.args.base.now c.args.place c.args.name (take c.args.len c.args.work.now) c.args.work.now (sym c.in_err-end.was ∙ c.end_of.ensures)).1

pub offset_bounds-base-place : goal.offset_bounds-base-place
offset_bounds-base-place c = let d = divisor_there c.args.base.now c.args.place _ (sym c.in_ok-end.was ∙ c.end_of.ensures) in
    omega (arith, d.after, d.within, c.well_formed)

pub slice_bounds-replace_outside_arms-count : goal.slice_bounds-replace_outside_arms-count
slice_bounds-replace_outside_arms-count c = let d = divisor_there c.args.base.now c.args.place _ (sym c.in_ok-end.was ∙ c.end_of.ensures) in
    omega (arith, d.after, d.within)

pub slice_bounds-replace_outside_arms-start : goal.slice_bounds-replace_outside_arms-start
slice_bounds-replace_outside_arms-start c = let d = divisor_there c.args.base.now c.args.place _ (sym c.in_ok-end.was ∙ c.end_of.ensures) in
    omega (arith, d.after, d.within)

pub slice_bounds-replace_outside_arms-end-3 : goal.slice_bounds-replace_outside_arms-end-3
slice_bounds-replace_outside_arms-end-3 c = let d = divisor_there c.args.base.now c.args.place _ (sym c.in_ok-end.was ∙ c.end_of.ensures) in
    omega (arith, d.after, d.within)

pub returns-in_err-n : goal.returns-in_err-n
returns-in_err-n c = let d = divisor_there c.args.base.now c.args.place _ (sym c.in_ok-end.was ∙ c.end_of.ensures) in
    let ws = take c.args.len c.args.work.now in
    let l = length-take-le c.args.len c.args.work.now c.requires.len_in_bounds.0 in
    absurd (no_ok_by_none _ _ (sym c.ok.ensures.value ∙ c.in_err-n.was) (c.replace_outside_arms.ensures.0 ∙ answers c.args.base.now c.args.place _ c.args.name ws c.args.spare.now d c.requires.len_in_bounds.1 c.requires.name_value.0 (omega (arith, l, c.requires.len_in_bounds.0, c.requires.name_value.1))))

pub slice_bounds-copy-end : goal.slice_bounds-copy-end
slice_bounds-copy-end c = let d = divisor_there c.args.base.now c.args.place _ (sym c.in_ok-end.was ∙ c.end_of.ensures) in
    let ws = take c.args.len c.args.work.now in
    let l = length-take-le c.args.len c.args.work.now c.requires.len_in_bounds.0 in
    in_out c.args.base.now c.args.place _ c.args.name ws c.args.spare.now d c.requires.len_in_bounds.1 c.requires.name_value.0 (omega (arith, l, c.requires.len_in_bounds.0, c.requires.name_value.1)) _ _ (sym (ok_by_some _ _ (sym c.ok.ensures.value ∙ c.in_ok-n.was)) ∙ c.replace_outside_arms.ensures.0) c.replace_outside_arms.ensures.1

pub slice_bounds-copy-end-2 : goal.slice_bounds-copy-end-2
slice_bounds-copy-end-2 c = let d = divisor_there c.args.base.now c.args.place _ (sym c.in_ok-end.was ∙ c.end_of.ensures) in
    let ws = take c.args.len c.args.work.now in
    let l = length-take-le c.args.len c.args.work.now c.requires.len_in_bounds.0 in
    sym (length-take-le _ _ (in_out c.args.base.now c.args.place _ c.args.name ws c.args.spare.now d c.requires.len_in_bounds.1 c.requires.name_value.0 (omega (arith, l, c.requires.len_in_bounds.0, c.requires.name_value.1)) _ _ (sym (ok_by_some _ _ (sym c.ok.ensures.value ∙ c.in_ok-n.was)) ∙ c.replace_outside_arms.ensures.0) c.replace_outside_arms.ensures.1))

pub copy-requires : goal.copy-requires
copy-requires c = let d = divisor_there c.args.base.now c.args.place _ (sym c.in_ok-end.was ∙ c.end_of.ensures) in
    let ws = take c.args.len c.args.work.now in
    let l = length-take-le c.args.len c.args.work.now c.requires.len_in_bounds.0 in
    goes_back c.args.base.now c.args.place _ c.args.name ws c.args.spare.now d c.requires.len_in_bounds.1 c.requires.name_value.0 (omega (arith, l, c.requires.len_in_bounds.0, c.requires.name_value.1)) _ (length c.args.work.now) _ (sym (ok_by_some _ _ (sym c.ok.ensures.value ∙ c.in_ok-n.was)) ∙ c.replace_outside_arms.ensures.0) c.replace_outside_arms.ensures.1 (omega (arith, l, c.requires.len_in_bounds.0))

pub returns-clause-value : goal.returns-clause-value
returns-clause-value c = let d = divisor_there c.args.base.now c.args.place _ (sym c.in_ok-end.was ∙ c.end_of.ensures) in
    let ws = take c.args.len c.args.work.now in
    let l = length-take-le c.args.len c.args.work.now c.requires.len_in_bounds.0 in
    (step_ends c.args.base.now c.args.place _ c.args.name ws c.args.spare.now d c.requires.len_in_bounds.1 c.requires.name_value.0 (omega (arith, l, c.requires.len_in_bounds.0, c.requires.name_value.1)) _ _ c.args.work.now _ (sym (ok_by_some _ _ (sym c.ok.ensures.value ∙ c.in_ok-n.was)) ∙ c.replace_outside_arms.ensures.0) c.replace_outside_arms.ensures.1 c.copy.ensures).0

pub returns-clause-front : goal.returns-clause-front
returns-clause-front c = let d = divisor_there c.args.base.now c.args.place _ (sym c.in_ok-end.was ∙ c.end_of.ensures) in
    let ws = take c.args.len c.args.work.now in
    let l = length-take-le c.args.len c.args.work.now c.requires.len_in_bounds.0 in
    (step_ends c.args.base.now c.args.place _ c.args.name ws c.args.spare.now d c.requires.len_in_bounds.1 c.requires.name_value.0 (omega (arith, l, c.requires.len_in_bounds.0, c.requires.name_value.1)) _ _ c.args.work.now _ (sym (ok_by_some _ _ (sym c.ok.ensures.value ∙ c.in_ok-n.was)) ∙ c.replace_outside_arms.ensures.0) c.replace_outside_arms.ensures.1 c.copy.ensures).1
