-- `print::answers::statements`, `print::answers::statement`, `print::answers::arms` and `print::answers::arm` meet their contracts. Each call reads from a later place on, or passes its own place on to the next function
-- of the cycle. Assumes nothing.
use Rattle.std.proofs.Common.{◌≡◌, ℕ, ◌+◌, ◌-◌, ◌<◌, drop, sym, subst, arith}
use Rattle.fmt.specs.checked.Check.{rows_in}
use Rattle.laws.specs.answer.Fronts.{ArmsFront}
use Rattle.laws.proofs.answer.CodeLaws.{match_headless, stmt_goes, no_stmt_here, no_stmt_past, through_next, through_ends, through_broken, arms_broken, arms_next, arms_done, arm_short, arm_other, arm_broken, arm_miscounted}
use Rattle.print.proofs.answers.Ends.{match_says, arm_says}
use Rattle.print.proofs.answers.+arm_arms_statement_statements.Goals as goal
use Rattle.print.proofs.answers.+arm_arms_statement_statements.Goals.{arm-then-at-words-via-then-at-words, arm-then-at-words-via-else-at-words+then-words-at-ne-ARM}

pub arm-returns-then-at-words : goal.arm-returns-then-at-words
arm-returns-then-at-words t c =
    elim c.then-at-words.branch [
      | arm-then-at-words-via-then-at-words w ↦ arm_short (rows_in c.args.rows.now) c.args.words.now c.args.bound c.args.at c.requires.le_bound.0 w.if-at-words.true
      | arm-then-at-words-via-else-at-words+then-words-at-ne-ARM w ↦ arm_other (rows_in c.args.rows.now) c.args.words.now c.args.bound c.args.at c.requires.le_bound.0 w.if-at-words.false w.if-words-at-ne-ARM.true
    ]

pub arm-returns-in_err-s : goal.arm-returns-in_err-s
arm-returns-in_err-s t c = rw c.from_residual.ensures (arm_broken (rows_in c.args.rows.now) c.args.words.now c.args.bound c.args.at c.requires.le_bound.0 c.if-at-words.false c.in_err-s.ensures)

pub arm-returns-then-words-at : goal.arm-returns-then-words-at
arm-returns-then-words-at t c =
    arm_miscounted (rows_in c.args.rows.now) c.args.words.now c.args.bound c.args.at c.requires.le_bound.0 c.if-at-words.false c.in_ok-s.s.count c.in_ok-s.s.end c.in_ok-s.ensures.0.2 c.if-words-at.true

pub arm-returns : goal.arm-returns
arm-returns t c =
    arm_says (rows_in c.args.rows.now) c.args.words.now c.args.at c.values.result c.args.bound c.in_ok-s.s.count c.in_ok-s.s.end c.requires.le_bound.0 c.if-at-words.false c.if-words-at-ne-ARM.false c.if-words-at.false c.in_ok-s.ensures.0 c.values.ensures

pub arms-returns-in_err-i : goal.arms-returns-in_err-i
arms-returns-in_err-i t c =
    let left = c.args.count - c.loop.counter in
    let some : 0 < left = omega (arith, c.loop-test.true) in
    rw c.from_residual.ensures (λ r f. arms_broken (rows_in c.args.rows.now) c.args.words.now c.args.bound c.loop.i left some c.in_err-i.ensures r (c.loop.invariant.2.to r f))

pub arms-loop-preserved : goal.arms-loop-preserved
arms-loop-preserved t c =
    let list = rows_in c.args.rows.now in
    let left = c.args.count - c.loop.counter in
    let some : 0 < left = omega (arith, c.loop-test.true) in
    let n = arms_next list c.args.words.now c.args.bound c.loop.i left c.in_ok-i.i some c.in_ok-i.ensures.2 in
    let z : left - 1 ≡ c.args.count - (c.loop.counter + 1) = omega arith in
    let part = λ (k : ℕ). ArmsFront list c.args.bound k (drop c.in_ok-i.i c.args.words.now) in (
      omega (arith, c.loop.invariant.0, c.in_ok-i.ensures.0),
      c.in_ok-i.ensures.1,
      record { to = λ r f. subst (λ (k : ℕ). part k r) z (n.to r (c.loop.invariant.2.to r f)); from = λ r f. c.loop.invariant.2.from r (n.from r (subst (λ (k : ℕ). part k r) (sym z) f)) },
    )

pub arms-returns : goal.arms-returns
arms-returns t c = (
  c.loop.invariant.0,
  c.loop.invariant.1,
  c.loop.invariant.2.from _ (arms_done (rows_in c.args.rows.now) c.args.words.now c.args.bound c.loop.i (c.args.count - c.loop.counter) (omega (arith, c.loop-test.false))),
)

pub statement-returns-in_err-opening : goal.statement-returns-in_err-opening
statement-returns-in_err-opening t c = rw c.from_residual.ensures (match_headless (rows_in c.args.rows.now) c.args.words.now c.args.at c.requires c.if-words-at-eq-LET.false c.in_err-opening.ensures)

pub statement-returns : goal.statement-returns
statement-returns t c =
    let o = c.in_ok-opening.opening in
    match_says (rows_in c.args.rows.now) c.args.words.now c.args.at c.arms.result o.names o.arms o.start c.requires c.if-words-at-eq-LET.false c.in_ok-opening.ensures.0 c.arms.ensures

pub statements-returns-in_err-i : goal.statements-returns-in_err-i
statements-returns-in_err-i t c =
    rw c.from_residual.ensures
    (through_broken (rows_in c.args.rows.now) c.args.words.now c.args.at c.loop-i.count c.loop-i.i c.loop-i.invariant.3 c.loop-i-test.true c.if-is_statement.ensures c.in_err-i.ensures)

pub statements-loop-i-smaller : goal.statements-loop-i-smaller
statements-loop-i-smaller t c = omega (arith, c.loop-i-test.true, stmt_goes (rows_in c.args.rows.now) c.args.words.now c.loop-i.i c.in_ok-i.i c.in_ok-i.ensures.2)

pub statements-loop-i-preserved : goal.statements-loop-i-preserved
statements-loop-i-preserved t c =
    let list = rows_in c.args.rows.now in
    let goes = stmt_goes list c.args.words.now c.loop-i.i c.in_ok-i.i c.in_ok-i.ensures.2 in (
      omega (arith, c.loop-i.invariant.0, goes),
      c.in_ok-i.ensures.1,
      omega (arith, c.loop-i.invariant.2, goes),
      through_next list c.args.words.now c.args.at c.loop-i.count c.loop-i.i c.loop-i.invariant.3 c.in_ok-i.i c.in_ok-i.ensures.2,
    )

pub statements-returns-else-is_statement : goal.statements-returns-else-is_statement
statements-returns-else-is_statement t c =
    let list = rows_in c.args.rows.now in
    let words = c.args.words.now in
    ((c.loop-i.invariant.0, c.loop-i.invariant.1, through_ends list words c.args.at c.loop-i.count c.loop-i.i c.loop-i.invariant.3 (no_stmt_here list words c.loop-i.i c.loop-i-test.true c.if-is_statement.ensures)), c.loop-i.invariant.2)

pub statements-returns-after-loop-i : goal.statements-returns-after-loop-i
statements-returns-after-loop-i t c =
    let list = rows_in c.args.rows.now in
    let words = c.args.words.now in
    ((c.loop-i.invariant.0, c.loop-i.invariant.1, through_ends list words c.args.at c.loop-i.count c.loop-i.i c.loop-i.invariant.3 (no_stmt_past list words c.loop-i.i c.loop-i-test.false)), c.loop-i.invariant.2)
