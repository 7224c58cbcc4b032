-- `statements::take_held` meets its contract. Assumes nothing.
use native.Mathlib.Omega.{arith}
use mathlib.Core.Path.{sym, ◌∙◌}
use Rattle.fusion.proofs.Tests.{some_by}
use Rattle.statements.proofs.Taking.{never_broken, stop_is, run_within, held_stands}
use Rattle.statements.proofs.take_held.Goals as goal

pub unwrap-end-requires : goal.unwrap-end-requires
unwrap-end-requires c = some_by c.end_of.result (λ e. never_broken c.args.held.now c.args.starts.now c.args.i c.requires.complete.0 c.requires.starts_value.0 c.requires.starts_value.1 (e ∙ c.end_of.ensures))

pub offset_bounds-held-at : goal.offset_bounds-held-at
offset_bounds-held-at c = let e = stop_is c.args.held.now c.args.starts.now c.args.i c.requires.complete.0 c.requires.starts_value.0 c.requires.starts_value.1 c.unwrap-end.result (sym c.unwrap-end.ensures ∙ c.end_of.ensures) in omega (arith, e, run_within c.args.held.now c.args.starts.now c.args.i c.requires.complete.0 c.requires.starts_value.0 c.requires.starts_value.1, c.requires.complete.1)

pub slice_bounds-put-count : goal.slice_bounds-put-count
slice_bounds-put-count c = let e = stop_is c.args.held.now c.args.starts.now c.args.i c.requires.complete.0 c.requires.starts_value.0 c.requires.starts_value.1 c.unwrap-end.result (sym c.unwrap-end.ensures ∙ c.end_of.ensures) in omega (arith, e)

pub slice_bounds-put-start : goal.slice_bounds-put-start
slice_bounds-put-start c = let e = stop_is c.args.held.now c.args.starts.now c.args.i c.requires.complete.0 c.requires.starts_value.0 c.requires.starts_value.1 c.unwrap-end.result (sym c.unwrap-end.ensures ∙ c.end_of.ensures) in omega (arith, e)

pub slice_bounds-put-end : goal.slice_bounds-put-end
slice_bounds-put-end c = let e = stop_is c.args.held.now c.args.starts.now c.args.i c.requires.complete.0 c.requires.starts_value.0 c.requires.starts_value.1 c.unwrap-end.result (sym c.unwrap-end.ensures ∙ c.end_of.ensures) in omega (arith, e, run_within c.args.held.now c.args.starts.now c.args.i c.requires.complete.0 c.requires.starts_value.0 c.requires.starts_value.1)

pub overflow_sub-result : goal.overflow_sub-result
overflow_sub-result c = let e = stop_is c.args.held.now c.args.starts.now c.args.i c.requires.complete.0 c.requires.starts_value.0 c.requires.starts_value.1 c.unwrap-end.result (sym c.unwrap-end.ensures ∙ c.end_of.ensures) in omega (arith, e)

pub returns : goal.returns
returns c = held_stands c.args.held.now c.args.starts.now c.args.i c.requires.complete.0 c.requires.starts_value.0 c.requires.starts_value.1 c.unwrap-end.result (stop_is c.args.held.now c.args.starts.now c.args.i c.requires.complete.0 c.requires.starts_value.0 c.requires.starts_value.1 c.unwrap-end.result (sym c.unwrap-end.ensures ∙ c.end_of.ensures)) c.args.tree.now _ c.requires.i_in_bounds c.put.ensures
