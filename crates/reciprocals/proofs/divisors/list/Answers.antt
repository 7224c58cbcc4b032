-- `reciprocals::divisors::list` meets its contract: the places so far stand in front. Assumes nothing.
use mathlib.Core.Path.{sym, ◌∙◌}
use Rattle.reciprocals.proofs.divisors.Places.{starts, turn_none, turn_one, list_ends}
use Rattle.reciprocals.proofs.divisors.list.Goals as goal
use Rattle.reciprocals.proofs.divisors.list.Goals.{in-Some, in_default}

pub loop-p-init : goal.loop-p-init
loop-p-init c = starts c.args.tokens.now c.args.places.now

pub loop-p-preserved : goal.loop-p-preserved
loop-p-preserved c =
    elim c.match-second_operand.branch [
      | in-Some w ↦
          rw (w.places-is, w.n-is)
          (turn_one c.args.tokens.now c.loop-p.invariant c.requires.1 c.loop-p-test.true w.in-Some.second (sym w.in-Some.is ∙ c.second_operand.ensures))
      | in_default w ↦
          rw (w.places-is, w.n-is) (turn_none c.args.tokens.now c.loop-p.invariant c.requires.1 c.loop-p-test.true (sym w.in_default.is ∙ c.second_operand.ensures))
    ]

pub returns : goal.returns
returns c = list_ends c.args.tokens.now c.loop-p.invariant c.loop-p-test.false
