-- `statements::Matches::mark_match` meets its contract. Assumes nothing.
use native.Mathlib.Omega.{arith}
use Rattle.statements.proofs.Keys.{begin_before, begin_inside, end_inside}
use Rattle.statements.proofs.Marking.{match_marked}
use Rattle.statements.proofs.Matches.mark_match.Goals as goal

pub offset_bounds-self-begin : goal.offset_bounds-self-begin
offset_bounds-self-begin c = omega (arith, begin_inside c.requires.grouped c.args.g c.requires.g_in_bounds.0 c.group_begin-begin.result c.group_begin-begin.ensures, c.well_formed)

pub slice_bounds-mark_arms-count : goal.slice_bounds-mark_arms-count
slice_bounds-mark_arms-count c = omega (arith, begin_before c.requires.grouped c.args.g c.requires.g_in_bounds.0 c.group_begin-begin.result c.group_begin-begin.ensures)

pub slice_bounds-mark_arms-start : goal.slice_bounds-mark_arms-start
slice_bounds-mark_arms-start c = omega (arith, begin_before c.requires.grouped c.args.g c.requires.g_in_bounds.0 c.group_begin-begin.result c.group_begin-begin.ensures)

pub slice_bounds-mark_arms-end : goal.slice_bounds-mark_arms-end
slice_bounds-mark_arms-end c = omega (arith, end_inside c.requires.grouped c.args.g c.requires.g_in_bounds.0)

pub returns : goal.returns
returns c = let a = c.args in
    match_marked c.requires.grouped a.g c.requires.g_in_bounds.0 c.group_begin-begin.result c.group_begin-begin.ensures a.first a.lets a.row a.bits.now _ _ _ _ c.take_key-n.ensures c.mark_reads.ensures c.mark_arms.ensures.1
