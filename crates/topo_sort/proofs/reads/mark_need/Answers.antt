-- `topo_sort::reads::mark_need` meets its contract. Assumes nothing.
use mathlib.Core.Path.{◌∙◌}
use lib.ListN.{length}
use Rattle.topo_sort.proofs.reads.Turns.{other_inside, other_kept, name_inside, name_marked}
use Rattle.topo_sort.proofs.reads.mark_need.Goals as goal

pub returns-then-w-ne-LET_NAME : goal.returns-then-w-ne-LET_NAME
returns-then-w-ne-LET_NAME c = let a = c.args in
    (other_inside a.w a.row (length a.table.now) c.if-w-ne-LET_NAME.true, other_kept a.w a.row a.table.now c.if-w-ne-LET_NAME.true)

pub returns : goal.returns
returns c = let a = c.args in
    let name = c.if-w-ne-LET_NAME.false in
    (c.set.ensures.0 ∙ name_inside a.w a.row (length a.table.now) name, c.set.ensures.1 ∙ name_marked a.w a.row a.table.now name)
