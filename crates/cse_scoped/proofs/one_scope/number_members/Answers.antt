use Rattle.cse_scoped.proofs.one_scope.Leaves.{numbers_none, numbers_more}
use Rattle.cse_scoped.proofs.one_scope.number_members.Goals as goal

pub loop-i-init : goal.loop-i-init
loop-i-init c = numbers_none c.args.first c.args.at c.args.numbers.now

pub loop-i-preserved : goal.loop-i-preserved
loop-i-preserved c = numbers_more c.args.first c.args.at c.args.numbers.now c.loop-i.numbers c.loop-i.i c.loop-i.invariant
