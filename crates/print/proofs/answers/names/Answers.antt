-- `print::answers::names` meets its contract: each name's row passed is one more name in front of what is left. Assumes nothing.
use Rattle.std.proofs.Common.{◌≡◌, ℕ, ◌-◌, length, drop, subst, arith}
use Rattle.laws.specs.answer.Fronts.{NamesFront}
use Rattle.laws.proofs.answer.CodeLaws.{named_other, named_unmade, named_next, named_past}
use Rattle.print.proofs.answers.names.Goals as goal
use Rattle.print.proofs.answers.names.Goals.{then-w-ne-NAME-via-then-w-ne-NAME, then-w-ne-NAME-via-else-w-ne-NAME+then-w-ne-MATCH_CLASS}

pub returns-then-w-ne-NAME : goal.returns-then-w-ne-NAME
returns-then-w-ne-NAME c = λ rows. (
  c.loop-i.auto.i,
  omega (arith, c.loop-i-test.true),
  elim c.then-w-ne-NAME.branch [
    | then-w-ne-NAME-via-then-w-ne-NAME w ↦ named_other c.args.words.now c.args.at c.loop-i.i c.loop-i.auto.i c.loop-i.invariant c.loop-i-test.true w.if-w-ne-NAME.true rows
    | then-w-ne-NAME-via-else-w-ne-NAME+then-w-ne-MATCH_CLASS w ↦
        named_unmade c.args.words.now c.args.at c.loop-i.i c.loop-i.auto.i c.loop-i.invariant c.loop-i-test.true w.if-w-ne-NAME.false w.if-w-ne-MATCH_CLASS.true rows
  ],
)

pub loop-i-preserved : goal.loop-i-preserved
loop-i-preserved c = named_next c.args.words.now c.args.at c.loop-i.i c.loop-i.auto.i c.loop-i.invariant c.loop-i-test.true c.if-w-ne-NAME.false c.if-w-ne-MATCH_CLASS.false

pub returns : goal.returns
returns c =
    let words = c.args.words.now in
    let z : c.loop-i.i ≡ length words = omega (arith, c.loop-i.auto.i-end, c.loop-i-test.false, c.requires) in
    λ rows. (
      c.requires,
      omega arith,
      subst (λ (k : ℕ). NamesFront rows (k - c.args.at) (drop c.args.at words) (drop k words)) z
          (named_past words c.args.at c.loop-i.i c.loop-i.auto.i c.loop-i.invariant c.loop-i-test.false rows),
    )
