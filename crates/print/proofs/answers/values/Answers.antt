-- `print::answers::values` meets its contract: what stands after so many values is what stands after those that are left. Assumes nothing.
use Rattle.std.proofs.Common.{◌≡◌, ℕ, ◌+◌, ◌-◌, ◌<◌, drop, sym, subst, arith}
use Rattle.fmt.specs.checked.Check.{rows_in}
use Rattle.laws.specs.answer.Fronts.{ValuesFront}
use Rattle.laws.proofs.answer.CodeLaws.{values_short, values_other, values_broken, values_next, values_done}
use Rattle.print.proofs.answers.values.Goals as goal
use Rattle.print.proofs.answers.values.Goals.{then-i-words-via-then-i-words, then-i-words-via-else-i-words+then-words-i-ne-VALUE}

pub returns-then-i-words : goal.returns-then-i-words
returns-then-i-words c =
    let list = rows_in c.args.rows.now in
    let left = c.args.count - c.loop.counter in
    let some : 0 < left = omega (arith, c.loop-test.true) in
    λ r f. elim c.then-i-words.branch [
      | then-i-words-via-then-i-words w ↦ values_short list c.args.words.now 35 c.loop.i left some w.if-i-words.true r (c.loop.invariant.2.to r f)
      | then-i-words-via-else-i-words+then-words-i-ne-VALUE w ↦ values_other list c.args.words.now 35 c.loop.i left some w.if-i-words.false w.if-words-i-ne-VALUE.true r (c.loop.invariant.2.to r f)
    ]

pub returns-in_err-i : goal.returns-in_err-i
returns-in_err-i c =
    let list = rows_in c.args.rows.now in
    let left = c.args.count - c.loop.counter in
    let some : 0 < left = omega (arith, c.loop-test.true) in
    rw c.from_residual.ensures (λ r f. values_broken list c.args.words.now 35 c.loop.i left some c.if-i-words.false c.in_err-i.ensures r (c.loop.invariant.2.to r f))

pub loop-preserved : goal.loop-preserved
loop-preserved c =
    let list = rows_in c.args.rows.now in
    let left = c.args.count - c.loop.counter in
    let some : 0 < left = omega (arith, c.loop-test.true) in
    let n = values_next list c.args.words.now 35 c.loop.i left c.in_ok-i.i some c.if-i-words.false c.if-words-i-ne-VALUE.false c.in_ok-i.ensures.2 in
    let z : left - 1 ≡ c.args.count - (c.loop.counter + 1) = omega arith in
    let part = λ (k : ℕ). ValuesFront list 35 k (drop c.in_ok-i.i c.args.words.now) in (
      omega (arith, c.loop.invariant.0, c.in_ok-i.ensures.0),
      c.in_ok-i.ensures.1,
      record { to = λ r f. subst (λ (k : ℕ). part k r) z (n.to r (c.loop.invariant.2.to r f)); from = λ r f. c.loop.invariant.2.from r (n.from r (subst (λ (k : ℕ). part k r) (sym z) f)) },
    )

pub returns : goal.returns
returns c = (
  c.loop.invariant.0,
  c.loop.invariant.1,
  c.loop.invariant.2.from _ (values_done (rows_in c.args.rows.now) c.args.words.now 35 c.loop.i (c.args.count - c.loop.counter) (omega (arith, c.loop-test.false))),
)
