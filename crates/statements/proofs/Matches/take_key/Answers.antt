-- `statements::Matches::take_key` meets its contract. Assumes nothing.
use native.Mathlib.Omega.{arith}
use mathlib.Core.Path.{sym, ◌∙◌}
use Rattle.fusion.proofs.Tests.{some_by}
use Rattle.statements.proofs.Keys.{begin_inside, end_inside, member_inside, key_not_broken, key_stop, stop_inside, key_short, key_stands_there, key_complete, later_fusable, key_done}
use Rattle.statements.proofs.Matches.take_key.Goals as goal

pub offset_bounds-self-begin : goal.offset_bounds-self-begin
offset_bounds-self-begin c = omega (arith, begin_inside c.requires.grouped c.args.g c.requires.g_in_bounds.0 c.group_begin-begin.result c.group_begin-begin.ensures, c.well_formed)

pub bounds-self-begin : goal.bounds-self-begin
bounds-self-begin c = begin_inside c.requires.grouped c.args.g c.requires.g_in_bounds.0 c.group_begin-begin.result c.group_begin-begin.ensures

pub overflow_add-key : goal.overflow_add-key
overflow_add-key c = omega (arith, member_inside c.requires.grouped c.args.g c.requires.g_in_bounds.0 c.group_begin-begin.result c.group_begin-begin.ensures, c.requires.grouped.short)

pub unwrap-stop-requires : goal.unwrap-stop-requires
unwrap-stop-requires c = some_by c.end_of.result (λ e. key_not_broken c.requires.grouped c.args.g c.requires.g_in_bounds.0 c.group_begin-begin.result c.group_begin-begin.ensures (e ∙ c.end_of.ensures))

pub offset_bounds-self-key : goal.offset_bounds-self-key
offset_bounds-self-key c = let es = key_stop c.requires.grouped c.args.g c.requires.g_in_bounds.0 c.group_begin-begin.result c.group_begin-begin.ensures c.unwrap-stop.result (sym c.unwrap-stop.ensures ∙ c.end_of.ensures) in omega (arith, es, stop_inside c.requires.grouped c.args.g c.requires.g_in_bounds.0 c.group_begin-begin.result c.group_begin-begin.ensures _ es, c.requires.grouped.short)

pub slice_bounds-put-count : goal.slice_bounds-put-count
slice_bounds-put-count c = let es = key_stop c.requires.grouped c.args.g c.requires.g_in_bounds.0 c.group_begin-begin.result c.group_begin-begin.ensures c.unwrap-stop.result (sym c.unwrap-stop.ensures ∙ c.end_of.ensures) in omega (arith, es)

pub slice_bounds-put-start : goal.slice_bounds-put-start
slice_bounds-put-start c = let es = key_stop c.requires.grouped c.args.g c.requires.g_in_bounds.0 c.group_begin-begin.result c.group_begin-begin.ensures c.unwrap-stop.result (sym c.unwrap-stop.ensures ∙ c.end_of.ensures) in omega (arith, es)

pub slice_bounds-put-end : goal.slice_bounds-put-end
slice_bounds-put-end c = let es = key_stop c.requires.grouped c.args.g c.requires.g_in_bounds.0 c.group_begin-begin.result c.group_begin-begin.ensures c.unwrap-stop.result (sym c.unwrap-stop.ensures ∙ c.end_of.ensures) in omega (arith, es, stop_inside c.requires.grouped c.args.g c.requires.g_in_bounds.0 c.group_begin-begin.result c.group_begin-begin.ensures _ es)

pub offset_bounds-self-end : goal.offset_bounds-self-end
offset_bounds-self-end c = omega (arith, end_inside c.requires.grouped c.args.g c.requires.g_in_bounds.0, c.well_formed)

pub slice_bounds-fuse_words-count : goal.slice_bounds-fuse_words-count
slice_bounds-fuse_words-count c = omega (arith, end_inside c.requires.grouped c.args.g c.requires.g_in_bounds.0)

pub slice_bounds-fuse_words-start : goal.slice_bounds-fuse_words-start
slice_bounds-fuse_words-start c = omega (arith, end_inside c.requires.grouped c.args.g c.requires.g_in_bounds.0)

pub offset_bounds-self-end-2 : goal.offset_bounds-self-end-2
offset_bounds-self-end-2 c = omega (arith, end_inside c.requires.grouped c.args.g c.requires.g_in_bounds.0, c.well_formed)

pub slice_bounds-fuse_words-count-2 : goal.slice_bounds-fuse_words-count-2
slice_bounds-fuse_words-count-2 c = omega (arith, end_inside c.requires.grouped c.args.g c.requires.g_in_bounds.0, c.requires.grouped.numbered)

pub slice_bounds-fuse_words-start-2 : goal.slice_bounds-fuse_words-start-2
slice_bounds-fuse_words-start-2 c = omega (arith, end_inside c.requires.grouped c.args.g c.requires.g_in_bounds.0, c.requires.grouped.numbered)

pub overflow_sub-stop : goal.overflow_sub-stop
overflow_sub-stop c = let es = key_stop c.requires.grouped c.args.g c.requires.g_in_bounds.0 c.group_begin-begin.result c.group_begin-begin.ensures c.unwrap-stop.result (sym c.unwrap-stop.ensures ∙ c.end_of.ensures) in omega (arith, es)

pub fuse_words-requires-clause-fusable : goal.fuse_words-requires-clause-fusable
fuse_words-requires-clause-fusable c = let es = key_stop c.requires.grouped c.args.g c.requires.g_in_bounds.0 c.group_begin-begin.result c.group_begin-begin.ensures c.unwrap-stop.result (sym c.unwrap-stop.ensures ∙ c.end_of.ensures) in
    let s = key_stands_there c.requires.grouped c.args.g c.requires.g_in_bounds.0 c.group_begin-begin.result c.group_begin-begin.ensures _ es c.args.tree.now _ c.requires.g_in_bounds.1 c.put.ensures in
    later_fusable c.requires.grouped c.args.g c.requires.g_in_bounds.0 c.group_begin-begin.result c.group_begin-begin.ensures _ es

pub fuse_words-requires-clause-len_in_bounds : goal.fuse_words-requires-clause-len_in_bounds
fuse_words-requires-clause-len_in_bounds c = let es = key_stop c.requires.grouped c.args.g c.requires.g_in_bounds.0 c.group_begin-begin.result c.group_begin-begin.ensures c.unwrap-stop.result (sym c.unwrap-stop.ensures ∙ c.end_of.ensures) in
    let s = key_stands_there c.requires.grouped c.args.g c.requires.g_in_bounds.0 c.group_begin-begin.result c.group_begin-begin.ensures _ es c.args.tree.now _ c.requires.g_in_bounds.1 c.put.ensures in
    (s.inside, key_short c.requires.grouped c.args.g c.requires.g_in_bounds.0 c.group_begin-begin.result c.group_begin-begin.ensures _ es)

pub fuse_words-requires-clause-complete : goal.fuse_words-requires-clause-complete
fuse_words-requires-clause-complete c = let es = key_stop c.requires.grouped c.args.g c.requires.g_in_bounds.0 c.group_begin-begin.result c.group_begin-begin.ensures c.unwrap-stop.result (sym c.unwrap-stop.ensures ∙ c.end_of.ensures) in
    let s = key_stands_there c.requires.grouped c.args.g c.requires.g_in_bounds.0 c.group_begin-begin.result c.group_begin-begin.ensures _ es c.args.tree.now _ c.requires.g_in_bounds.1 c.put.ensures in
    key_complete c.requires.grouped c.args.g c.requires.g_in_bounds.0 c.group_begin-begin.result c.group_begin-begin.ensures _ es _ _ s

pub returns : goal.returns
returns c = let es = key_stop c.requires.grouped c.args.g c.requires.g_in_bounds.0 c.group_begin-begin.result c.group_begin-begin.ensures c.unwrap-stop.result (sym c.unwrap-stop.ensures ∙ c.end_of.ensures) in key_done c.requires.grouped c.args.g c.requires.g_in_bounds.0 c.group_begin-begin.result c.group_begin-begin.ensures _ es _ _ (key_stands_there c.requires.grouped c.args.g c.requires.g_in_bounds.0 c.group_begin-begin.result c.group_begin-begin.ensures _ es c.args.tree.now _ c.requires.g_in_bounds.1 c.put.ensures) _ _ c.fuse_words.ensures
