use Rattle.std.proofs.Common.{◌-◌, length}
use Rattle.replace.proofs.divisor.Turning.{State}
use Rattle.replace.proofs.divisor.+rewrite.Given as goal

abbrev pub decreases-rewrite : goal.decreases-rewrite
decreases-rewrite l = length l.tokens.now

abbrev pub invariant-loop-i : goal.invariant-loop-i
invariant-loop-i l = State l.tokens l.divisor l.name l.initial.out l.out l.i l.o

abbrev pub decreases-loop-i : goal.decreases-loop-i
decreases-loop-i l = length l.tokens - l.i
