-- `replace::matching::next_factor` meets its contract. Assumes nothing.
use Rattle.std.proofs.Common.{sym, ◌∙◌, arith}
use Rattle.replace.proofs.matching.Runs.{passed_on}
use Rattle.replace.proofs.matching.next_factor.Goals as goal

pub loop-q-preserved : goal.loop-q-preserved
loop-q-preserved c = (omega (arith, c.loop-q.invariant.0), omega arith, c.loop-q.invariant.2 ∙ passed_on c.args.part.now c.loop-q.q (omega arith) (sym (rw c.if-not-is_passed.false at c.is_passed.ensures)))
