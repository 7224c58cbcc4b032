-- `topo_sort::reads::mark_needs` meets its contract: the places so far, with the words to come, are the whole. Assumes nothing.
use mathlib.Core.Path.{sym, ◌∙◌}
use Rattle.topo_sort.proofs.reads.Turns.{turn_in, turn_out, ends}
use Rattle.topo_sort.proofs.reads.mark_needs.Goals as goal
use Rattle.topo_sort.proofs.reads.mark_needs.Goals.{then-not-mark_need, else-not-mark_need}

pub loop-w-preserved : goal.loop-w-preserved
loop-w-preserved c = let a = c.args in elim c.if-not-mark_need.branch [
  | then-not-mark_need w ↦ rw w.all-is (turn_out a.tokens.now a.row a.table.now c.loop-w.invariant c.loop-w-test.true _ c.mark_need.ensures.1 (sym w.if-not-mark_need.true ∙ c.mark_need.ensures.0))
  | else-not-mark_need w ↦ rw w.all-is (turn_in a.tokens.now a.row a.table.now c.loop-w.invariant c.loop-w-test.true _ c.mark_need.ensures.1 (sym w.if-not-mark_need.false ∙ c.mark_need.ensures.0))
]

pub returns : goal.returns
returns c = ends c.args.tokens.now c.args.row c.args.table.now c.loop-w.invariant c.loop-w-test.false
