-- The proof of the cycle of statements, arms and an arm. Each measure is twice the words that are left, one more for the arms. Assumes nothing.
use Rattle.std.proofs.Common.{sym, ◌∙◌, arith}
use Rattle.fmt.specs.checked.Check.{rows_in}
use Rattle.print.proofs.told.ArmLoops.{arm_row_is, stmts_next, stmts_turn, values_here, arm_end, arm_whole, arms_next, arms_turn, arms_end}
use Rattle.print.proofs.answerwriter.StatementLaws.{stmt_needs, stmt_means}
use Rattle.print.proofs.answerwriter.+arm_arms_statement.Goals as goal

pub arm-statement-p-requires : goal.arm-statement-p-requires
arm-statement-p-requires t c = (omega (arith, (c.loop.invariant.1 c.requires.0 c.requires.1 c.requires.2).after_row, (arm_row_is (rows_in c.args.rows.now) c.args.words.now c.args.bound c.args.at c.args.bare c.args.dry c.args.out.now c.args.to c.requires.0 c.requires.1 c.requires.2).0, c.decreases), stmts_next (rows_in c.args.rows.now) c.args.words.now c.args.bound c.args.at c.args.bare c.args.dry _ _ c.requires.0 c.requires.1 (c.loop.invariant.1 c.requires.0 c.requires.1 c.requires.2) c.loop-test.true)

pub arm-loop-preserved : goal.arm-loop-preserved
arm-loop-preserved t c = (c.put-end.auto.out ∙ (c.statement-p.auto.out ∙ c.loop.invariant.0), λ s vs h. stmts_turn (rows_in c.args.rows.now) c.args.words.now c.args.bound c.args.at c.args.bare c.args.dry _ _ s vs (c.loop.invariant.1 s vs h) c.loop-test.true c.statement-p.ensures c.put-end.ensures)

pub arm-values-v-requires : goal.arm-values-v-requires
arm-values-v-requires t c = (c.requires.1, values_here (rows_in c.args.rows.now) c.args.words.now c.args.bound c.args.at c.args.bare c.args.dry _ _ c.requires.0 c.requires.1 (c.loop.invariant.1 c.requires.0 c.requires.1 c.requires.2) c.requires.2 c.loop-test.false)

pub arm-returns : goal.arm-returns
arm-returns t c = λ s vs h. arm_whole (rows_in c.args.rows.now) c.args.words.now c.args.bound c.args.at c.args.bare c.args.dry _ _ s vs _ c.args.out.now c.args.to (omega (arith, (arm_row_is (rows_in c.args.rows.now) c.args.words.now c.args.bound c.args.at c.args.bare c.args.dry c.args.out.now c.args.to s vs h).1)) c.put_brace_opening-end.ensures (arm_end (rows_in c.args.rows.now) c.args.words.now c.args.bound c.args.at c.args.bare c.args.dry _ _ s vs (c.loop.invariant.1 s vs h) h c.loop-test.false c.values-v.ensures c.put_brace_closing-e.ensures)

pub arms-arm-p-requires : goal.arms-arm-p-requires
arms-arm-p-requires t c = (omega (arith, (c.loop-i.invariant.1 c.requires.0 c.requires.1).after, c.decreases), arms_next (rows_in c.args.rows.now) c.args.words.now c.args.bound c.args.form.count c.args.at c.args.form.bare c.args.form.defaulted c.args.dry _ _ c.requires.0 (c.loop-i.invariant.1 c.requires.0 c.requires.1) c.loop-i-test.true)

pub arms-loop-i-preserved : goal.arms-loop-i-preserved
arms-loop-i-preserved t c = (c.put_arm_closing-end.auto.out ∙ (c.arm-p.auto.out ∙ (c.put_arm_opening-start.auto.out ∙ c.loop-i.invariant.0)), λ l h. arms_turn (rows_in c.args.rows.now) c.args.words.now c.args.bound c.args.form.count c.args.at c.args.form.bare c.args.form.defaulted c.args.dry _ _ l (c.loop-i.invariant.1 l h) c.loop-i-test.true c.put_arm_opening-start.ensures c.arm-p.ensures c.put_arm_closing-end.ensures)

pub arms-returns : goal.arms-returns
arms-returns t c = λ l h. arms_end (rows_in c.args.rows.now) c.args.words.now c.args.bound c.args.form.count c.args.at c.args.form.bare c.args.form.defaulted c.args.dry _ _ l (c.loop-i.invariant.1 l h) c.loop-i-test.false c.put_arms_closing-e.ensures

pub statement-let_statement-requires : goal.statement-let_statement-requires
statement-let_statement-requires t c = stmt_needs c.args.rows.now c.args.words.now c.args.at c.requires.0 _ c.requires.1 (sym c.in-Let.is ∙ c.read_binding.ensures (rows_in c.args.rows.now) c.requires.0 c.requires.1)

pub statement-head-e-requires : goal.statement-head-e-requires
statement-head-e-requires t c = record { some_tree = (stmt_needs c.args.rows.now c.args.words.now c.args.at c.requires.0 _ c.requires.1 (sym c.in-Match.is ∙ c.read_binding.ensures (rows_in c.args.rows.now) c.requires.0 c.requires.1)).0; some_names = (stmt_needs c.args.rows.now c.args.words.now c.args.at c.requires.0 _ c.requires.1 (sym c.in-Match.is ∙ c.read_binding.ensures (rows_in c.args.rows.now) c.requires.0 c.requires.1)).1 }

pub statement-overflow_add-first : goal.statement-overflow_add-first
statement-overflow_add-first t c = omega (arith, (stmt_needs c.args.rows.now c.args.words.now c.args.at c.requires.0 _ c.requires.1 (sym c.in-Match.is ∙ c.read_binding.ensures (rows_in c.args.rows.now) c.requires.0 c.requires.1)).4, c.well_formed.1.0)

pub statement-arms-requires : goal.statement-arms-requires
statement-arms-requires t c = (omega (arith, (stmt_needs c.args.rows.now c.args.words.now c.args.at c.requires.0 _ c.requires.1 (sym c.in-Match.is ∙ c.read_binding.ensures (rows_in c.args.rows.now) c.requires.0 c.requires.1)).3, (stmt_needs c.args.rows.now c.args.words.now c.args.at c.requires.0 _ c.requires.1 (sym c.in-Match.is ∙ c.read_binding.ensures (rows_in c.args.rows.now) c.requires.0 c.requires.1)).4, c.decreases), (stmt_needs c.args.rows.now c.args.words.now c.args.at c.requires.0 _ c.requires.1 (sym c.in-Match.is ∙ c.read_binding.ensures (rows_in c.args.rows.now) c.requires.0 c.requires.1)).2)

pub statement-returns-in-Let : goal.statement-returns-in-Let
statement-returns-in-Let t c = λ s h. stmt_means c.args.rows.now c.args.words.now c.args.at c.args.dry c.args.out.now c.args.to _ _ _ s _ h (sym c.in-Let.is ∙ c.read_binding.ensures (rows_in c.args.rows.now) s h) c.let_statement.ensures

pub statement-returns-in-Match : goal.statement-returns-in-Match
statement-returns-in-Match t c = λ s h. stmt_means c.args.rows.now c.args.words.now c.args.at c.args.dry c.args.out.now c.args.to _ _ _ s _ h (sym c.in-Match.is ∙ c.read_binding.ensures (rows_in c.args.rows.now) s h) _ _ _ c.is_sign.ensures c.head-e.ensures c.arms.ensures
