-- `print::answerwriter::names` meets its contract: the names that are left stand at the place reached. Assumes nothing.
use Rattle.std.proofs.Common.{◌∙◌, arith}
use Rattle.fmt.specs.checked.Check.{rows_in}
use Rattle.print.proofs.told.NameLoop.{names_inside, names_turn, names_end, names_whole}
use Rattle.print.proofs.answerwriter.names.Goals as goal

pub overflow_add-at : goal.overflow_add-at
overflow_add-at c = omega (arith, names_inside (rows_in c.args.rows.now) c.args.words.now c.args.n c.args.at c.args.dry _ _ c.requires.0 (c.loop-i.invariant.1 c.requires.0 c.requires.1) c.loop-i-test.true, c.well_formed.1.0)

pub offset_bounds-words-at : goal.offset_bounds-words-at
offset_bounds-words-at c = omega (arith, names_inside (rows_in c.args.rows.now) c.args.words.now c.args.n c.args.at c.args.dry _ _ c.requires.0 (c.loop-i.invariant.1 c.requires.0 c.requires.1) c.loop-i-test.true, c.well_formed.1.0)

pub bounds-words-at : goal.bounds-words-at
bounds-words-at c = names_inside (rows_in c.args.rows.now) c.args.words.now c.args.n c.args.at c.args.dry _ _ c.requires.0 (c.loop-i.invariant.1 c.requires.0 c.requires.1) c.loop-i-test.true

pub loop-i-preserved : goal.loop-i-preserved
loop-i-preserved c = (c.put_name-end.auto.out ∙ (c.put_comma-start.auto.out ∙ c.loop-i.invariant.0), λ ns h. names_turn (rows_in c.args.rows.now) c.args.words.now c.args.n c.args.at c.args.dry _ _ ns (c.loop-i.invariant.1 ns h) c.args.rows.now c.loop-i-test.true c.put_comma-start.ensures c.put_name-end.ensures)

pub returns : goal.returns
returns c = λ ns h. names_whole (rows_in c.args.rows.now) c.args.words.now c.args.n c.args.at c.args.dry _ _ ns c.args.out.now c.args.to h c.put_tuple_opening-end.ensures (names_end (rows_in c.args.rows.now) c.args.words.now c.args.n c.args.at c.args.dry _ _ ns (c.loop-i.invariant.1 ns h) c.loop-i-test.false c.put_tuple_closing.ensures)
