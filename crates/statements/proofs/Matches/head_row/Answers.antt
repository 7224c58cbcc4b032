-- `statements::Matches::head_row` meets its contract. Assumes nothing.
use native.Mathlib.Omega.{arith}
use Rattle.statements.proofs.Keys.{begin_before, begin_inside, member_inside, kind_there, part_few, head_is}
use Rattle.statements.proofs.Matches.head_row.Goals as goal

pub offset_bounds-self-begin : goal.offset_bounds-self-begin
offset_bounds-self-begin c = omega (arith, begin_inside c.requires.grouped c.args.g c.requires.g_in_bounds c.group_begin-begin.result c.group_begin-begin.ensures, c.well_formed)

pub bounds-self-begin : goal.bounds-self-begin
bounds-self-begin c = begin_inside c.requires.grouped c.args.g c.requires.g_in_bounds c.group_begin-begin.result c.group_begin-begin.ensures

pub offset_bounds-self-self : goal.offset_bounds-self-self
offset_bounds-self-self c = omega (arith, member_inside c.requires.grouped c.args.g c.requires.g_in_bounds c.group_begin-begin.result c.group_begin-begin.ensures, c.requires.grouped.short)

pub bounds-self-self : goal.bounds-self-self
bounds-self-self c = member_inside c.requires.grouped c.args.g c.requires.g_in_bounds c.group_begin-begin.result c.group_begin-begin.ensures

pub overflow_sub-result : goal.overflow_sub-result
overflow_sub-result c = omega (arith, begin_before c.requires.grouped c.args.g c.requires.g_in_bounds c.group_begin-begin.result c.group_begin-begin.ensures)

pub overflow_add-result-2 : goal.overflow_add-result-2
overflow_add-result-2 c = omega (arith, kind_there c.requires.grouped c.args.g c.requires.g_in_bounds c.group_begin-begin.result c.group_begin-begin.ensures, part_few c.requires.grouped c.args.g c.requires.g_in_bounds c.group_begin-begin.result c.group_begin-begin.ensures)

pub overflow_mul-result : goal.overflow_mul-result
overflow_mul-result c = omega (arith, kind_there c.requires.grouped c.args.g c.requires.g_in_bounds c.group_begin-begin.result c.group_begin-begin.ensures, part_few c.requires.grouped c.args.g c.requires.g_in_bounds c.group_begin-begin.result c.group_begin-begin.ensures)

pub overflow_add-result-3 : goal.overflow_add-result-3
overflow_add-result-3 c = omega (arith, kind_there c.requires.grouped c.args.g c.requires.g_in_bounds c.group_begin-begin.result c.group_begin-begin.ensures, part_few c.requires.grouped c.args.g c.requires.g_in_bounds c.group_begin-begin.result c.group_begin-begin.ensures)

pub returns : goal.returns
returns c = head_is c.requires.grouped c.args.g c.requires.g_in_bounds c.group_begin-begin.result c.group_begin-begin.ensures
