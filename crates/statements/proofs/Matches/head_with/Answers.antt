-- `statements::Matches::head_with` meets its contract. Assumes nothing.
use native.Mathlib.Omega.{arith}
use Rattle.statements.proofs.Keys.{begin_before, begin_inside, end_inside}
use Rattle.statements.proofs.Writing.{head_written}
use Rattle.statements.proofs.Matches.head_with.Goals as goal

pub offset_bounds-self-begin : goal.offset_bounds-self-begin
offset_bounds-self-begin c = omega (arith, begin_inside c.requires.grouped c.args.g c.requires.g_in_bounds.0 c.group_begin-begin.result c.group_begin-begin.ensures, c.well_formed)

pub slice_bounds-put_names-count : goal.slice_bounds-put_names-count
slice_bounds-put_names-count c = omega (arith, begin_before c.requires.grouped c.args.g c.requires.g_in_bounds.0 c.group_begin-begin.result c.group_begin-begin.ensures)

pub slice_bounds-put_names-start : goal.slice_bounds-put_names-start
slice_bounds-put_names-start c = omega (arith, begin_before c.requires.grouped c.args.g c.requires.g_in_bounds.0 c.group_begin-begin.result c.group_begin-begin.ensures)

pub slice_bounds-put_names-end : goal.slice_bounds-put_names-end
slice_bounds-put_names-end c = omega (arith, end_inside c.requires.grouped c.args.g c.requires.g_in_bounds.0, c.requires.grouped.numbered)

pub overflow_sub-result : goal.overflow_sub-result
overflow_sub-result c = omega (arith, begin_before c.requires.grouped c.args.g c.requires.g_in_bounds.0 c.group_begin-begin.result c.group_begin-begin.ensures)

pub returns : goal.returns
returns c = head_written c.requires.grouped c.args.g c.requires.g_in_bounds.0 c.group_begin-begin.result c.group_begin-begin.ensures c.args.at _ c.args.table.now _ _ _ _ _
    c.head_row.ensures
    c.take_key-n.ensures
    c.put_word.ensures
    c.put.ensures
    c.put_names.ensures.1
