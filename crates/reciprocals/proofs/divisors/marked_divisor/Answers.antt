-- `reciprocals::divisors::marked_divisor` meets its contract. Assumes nothing.
use Rattle.reciprocals.proofs.divisors.Marked.{unmarked, is_there}
use Rattle.reciprocals.proofs.divisors.marked_divisor.Goals as goal

pub returns-then-marks-p-eq0 : goal.returns-then-marks-p-eq0
returns-then-marks-p-eq0 c = unmarked c.args.tokens.now c.args.marks.now c.args.p c.if-marks-p-eq0.true

pub returns-else-marks-p-eq0 : goal.returns-else-marks-p-eq0
returns-else-marks-p-eq0 c = is_there c.args.tokens.now c.args.marks.now c.args.p c.if-marks-p-eq0.false _ c.second_operand.ensures
