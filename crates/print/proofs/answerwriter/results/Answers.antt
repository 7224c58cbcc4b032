-- `print::answerwriter::results` meets its contract: the results that are left stand at the place reached. Assumes nothing.
use mathlib.Core.Path.{◌∙◌}
use native.Mathlib.Omega.{arith}
use Rattle.fmt.specs.checked.Check.{rows_in}
use Rattle.print.proofs.told.LineLoops.{results_next, results_turn, results_end}
use Rattle.print.proofs.answerwriter.results.Goals as goal

pub tree-p-requires : goal.tree-p-requires
tree-p-requires c = results_next (rows_in c.args.rows.now) c.args.words.now c.args.dry _ _ c.requires.0 (c.loop-next.invariant.1 c.requires.0 c.requires.1) c.loop-next-test.true

pub loop-next-smaller : goal.loop-next-smaller
loop-next-smaller c = omega (arith, c.loop-next-test.true, (results_turn (rows_in c.args.rows.now) c.args.words.now c.args.dry _ _ c.requires.0 (c.loop-next.invariant.1 c.requires.0 c.requires.1) c.loop-next-test.true c.tree-p.ensures c.put-end.ensures).1)

pub loop-next-preserved : goal.loop-next-preserved
loop-next-preserved c = (c.put-end.auto.out ∙ (c.tree-p.auto.out ∙ c.loop-next.invariant.0), λ vs h. (results_turn (rows_in c.args.rows.now) c.args.words.now c.args.dry _ _ vs (c.loop-next.invariant.1 vs h) c.loop-next-test.true c.tree-p.ensures c.put-end.ensures).0)

pub returns : goal.returns
returns c = λ vs h. results_end (rows_in c.args.rows.now) c.args.words.now c.args.dry _ _ vs (c.loop-next.invariant.1 vs h) c.loop-next-test.false c.place.ensures
