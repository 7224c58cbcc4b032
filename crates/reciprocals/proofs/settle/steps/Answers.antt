-- `reciprocals::settle::steps` meets its contract: the words so far, with the steps to come, are the whole. Assumes nothing.
use native.Mathlib.Omega.{arith}
use mathlib.Core.Path.{sym, ◌∙◌}
use Rattle.reciprocals.proofs.settle.Settling.{turn_broken, turn, ends}
use Rattle.reciprocals.proofs.settle.steps.Goals as goal

pub returns-in_err-n : goal.returns-in_err-n
returns-in_err-n c =
    let none = turn_broken c.loop-k.invariant c.loop-k-test.true c.step.new.work (sym c.in_err-n.was ∙ c.step.ensures.value) in
    record { value = c.from_residual.ensures ∙ none.0; front = none.1 }

pub loop-k-preserved : goal.loop-k-preserved
loop-k-preserved c = turn c.loop-k.invariant c.loop-k-test.true _ _ _ (sym c.in_ok-n.was ∙ c.step.ensures.value) c.step.ensures.front (omega (arith, c.step.auto.work)) (omega (arith, c.step.auto.spare))

pub returns : goal.returns
returns c = record { value = (ends c.loop-k.invariant c.loop-k-test.false).0; front = (ends c.loop-k.invariant c.loop-k-test.false).1 }
