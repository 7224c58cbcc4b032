-- `rounds::uses::clear_arms` meets its contract. Assumes nothing.
use native.Mathlib.Omega.{arith}
use Rattle.rounds.proofs.uses.Marking.{marking_starts, marking_turns}
use Rattle.rounds.proofs.uses.clear_arms.Goals as goal

pub loop-p-init : goal.loop-p-init
loop-p-init c = (omega arith, marking_starts c.args.tokens.now c.args.marks.now c.requires.ones)

pub loop-p-preserved : goal.loop-p-preserved
loop-p-preserved c = (omega (arith, c.loop-p-test.true), marking_turns c.requires.complete c.loop-p-test.true c.loop-p.invariant.1 c.clear_arms_of.ensures)
