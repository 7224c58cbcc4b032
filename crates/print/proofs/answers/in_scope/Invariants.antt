use Rattle.std.proofs.Common.{◌≡◌, ◌-◌, length}
use Rattle.laws.specs.answer.Seen.{seen}
use Rattle.print.proofs.answers.in_scope.Given as goal

abbrev pub invariant-loop-i : goal.invariant-loop-i
invariant-loop-i l = seen l.words 0 (length l.words) ≡ seen l.words l.i (length l.words - l.i)
