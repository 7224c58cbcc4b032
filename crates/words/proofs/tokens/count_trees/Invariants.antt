use Rattle.std.proofs.Common.{◌-◌, length}
use Rattle.words.proofs.tokens.Counting.{Counting}
use Rattle.words.proofs.tokens.count_trees.Given as goal

abbrev pub invariant-loop-w : goal.invariant-loop-w
invariant-loop-w l = Counting l.tokens (length l.tokens - length l.yielded) l.count
