-- `print::answerwriter::values` meets its contract: the values that are left stand at the place reached. Assumes nothing.
use Rattle.std.proofs.Common.{◌∙◌, arith}
use Rattle.fmt.specs.checked.Check.{rows_in}
use Rattle.print.proofs.told.LoopLaws.{values_next, values_inside, values_turn, values_end, values_whole}
use Rattle.print.proofs.answerwriter.values.Goals as goal

pub overflow_add-next : goal.overflow_add-next
overflow_add-next c = omega (arith, values_inside (rows_in c.args.rows.now) c.args.words.now c.args.n c.args.at c.args.dry _ _ c.requires.0 (c.loop-i.invariant.1 c.requires.0 c.requires.1) c.loop-i-test.true, c.well_formed.1.0)

pub tree-p-requires : goal.tree-p-requires
tree-p-requires c = values_next (rows_in c.args.rows.now) c.args.words.now c.args.n c.args.at c.args.dry _ _ c.requires.0 (c.loop-i.invariant.1 c.requires.0 c.requires.1) c.loop-i-test.true

pub loop-i-preserved : goal.loop-i-preserved
loop-i-preserved c = (c.tree-p.auto.out ∙ (c.put_comma-start.auto.out ∙ c.loop-i.invariant.0), λ vs h. values_turn (rows_in c.args.rows.now) c.args.words.now c.args.n c.args.at c.args.dry _ _ vs (c.loop-i.invariant.1 vs h) c.loop-i-test.true c.put_comma-start.ensures c.tree-p.ensures)

pub returns : goal.returns
returns c = λ vs h. values_whole (rows_in c.args.rows.now) c.args.words.now c.args.n c.args.at c.args.dry _ _ vs c.args.out.now c.args.to h c.put_tuple_opening-end.ensures (values_end (rows_in c.args.rows.now) c.args.words.now c.args.n c.args.at c.args.dry _ _ vs (c.loop-i.invariant.1 vs h) c.loop-i-test.false c.put_tuple_closing-e.ensures)
