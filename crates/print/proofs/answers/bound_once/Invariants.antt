use Rattle.std.proofs.Common.{◌≡◌, drop}
use Rattle.laws.specs.answer.Seen.{once}
use Rattle.print.proofs.answers.bound_once.Given as goal

abbrev pub invariant-loop-i : goal.invariant-loop-i
invariant-loop-i l = once l.words ≡ once (drop l.i l.words)
