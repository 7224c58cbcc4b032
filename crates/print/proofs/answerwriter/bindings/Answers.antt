-- `print::answerwriter::bindings` meets its contract: the statements that are left stand at the place reached. Assumes nothing.
use mathlib.Core.Path.{refl, sym, ◌∙◌}
use native.Mathlib.Omega.{arith}
use Rattle.fmt.specs.checked.Check.{rows_in}
use Rattle.print.proofs.told.LineLoops.{bindings_begin, bindings_next, bindings_turn, bindings_end}
use Rattle.print.proofs.answerwriter.bindings.Goals as goal

pub loop-out-init : goal.loop-out-init
loop-out-init c = (refl, λ a h. bindings_begin (rows_in c.args.rows.now) c.args.words.now c.args.dry _ _ a h)

pub statement-p-requires : goal.statement-p-requires
statement-p-requires c = bindings_next (rows_in c.args.rows.now) c.args.words.now c.args.dry _ _ c.requires.0 c.requires.1 (c.loop-out.invariant.1 c.requires.0 c.requires.1) (sym c.statement_next.ensures ∙ c.loop-out-test.true)

pub loop-out-smaller : goal.loop-out-smaller
loop-out-smaller c = omega (arith, (bindings_turn (rows_in c.args.rows.now) c.args.words.now c.args.dry _ _ c.requires.0 c.requires.1 (c.loop-out.invariant.1 c.requires.0 c.requires.1) (sym c.statement_next.ensures ∙ c.loop-out-test.true) c.statement-p.ensures c.put-end.ensures).1, (bindings_turn (rows_in c.args.rows.now) c.args.words.now c.args.dry _ _ c.requires.0 c.requires.1 (c.loop-out.invariant.1 c.requires.0 c.requires.1) (sym c.statement_next.ensures ∙ c.loop-out-test.true) c.statement-p.ensures c.put-end.ensures).2)

pub loop-out-preserved : goal.loop-out-preserved
loop-out-preserved c = (c.put-end.auto.out ∙ (c.statement-p.auto.out ∙ c.loop-out.invariant.0), λ a h. (bindings_turn (rows_in c.args.rows.now) c.args.words.now c.args.dry _ _ a h (c.loop-out.invariant.1 a h) (sym c.statement_next.ensures ∙ c.loop-out-test.true) c.statement-p.ensures c.put-end.ensures).0)

pub returns : goal.returns
returns c = λ a h. bindings_end (rows_in c.args.rows.now) c.args.words.now c.args.dry _ _ a h (c.loop-out.invariant.1 a h) (sym c.statement_next.ensures ∙ c.loop-out-test.false)
