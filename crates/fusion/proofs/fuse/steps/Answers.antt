-- `fusion::fuse::steps` meets its contract: the words so far, with the steps to come, are the whole. Assumes nothing.
use native.Mathlib.Omega.{arith}
use mathlib.Core.Path.{sym, ◌∙◌}
use lib.ListN.{length}
use Rattle.fusion.proofs.fuse.Numbers.{each_small}
use Rattle.fusion.proofs.fuse.Fusing.{turn_broken, turn, ends}
use Rattle.fusion.proofs.fuse.steps.Goals as goal

pub overflow_mul-name : goal.overflow_mul-name
overflow_mul-name c = (omega (arith, each_small (length c.args.places.now) c.args.numbers.now c.loop-k.k c.requires.places_in_bounds.1 c.loop-k-test.true (omega (arith, c.loop-k-test.true, c.requires.places_in_bounds.0))))

pub overflow_add-name : goal.overflow_add-name
overflow_add-name c = (omega (arith, each_small (length c.args.places.now) c.args.numbers.now c.loop-k.k c.requires.places_in_bounds.1 c.loop-k-test.true (omega (arith, c.loop-k-test.true, c.requires.places_in_bounds.0))))

pub returns-in_err-n-clause-value : goal.returns-in_err-n-clause-value
returns-in_err-n-clause-value c = c.from_residual.ensures ∙ (turn_broken c.loop-k.invariant c.loop-k-test.true c.requires.places_in_bounds.0 c.step.new.work (sym c.in_err-n.was ∙ c.step.ensures.value)).0

pub returns-in_err-n-clause-front : goal.returns-in_err-n-clause-front
returns-in_err-n-clause-front c = (turn_broken c.loop-k.invariant c.loop-k-test.true c.requires.places_in_bounds.0 c.step.new.work (sym c.in_err-n.was ∙ c.step.ensures.value)).1

pub loop-k-preserved : goal.loop-k-preserved
loop-k-preserved c = turn c.loop-k.invariant c.loop-k-test.true c.requires.places_in_bounds.0 _ _ _ (sym c.in_ok-n.was ∙ c.step.ensures.value) c.step.ensures.front c.step.auto.work c.step.auto.spare

pub returns-clause-value : goal.returns-clause-value
returns-clause-value c = (ends c.loop-k.invariant c.loop-k-test.false).0

pub returns-clause-front : goal.returns-clause-front
returns-clause-front c = (ends c.loop-k.invariant c.loop-k-test.false).1
