use Rattle.std.proofs.Common.{◌≡◌, drop}
use Rattle.laws.specs.answer.Seen.{names_bind}
use Rattle.print.proofs.answers.names_bind.Given as goal

abbrev pub invariant-loop-w : goal.invariant-loop-w
invariant-loop-w l = names_bind l.code (drop l.at l.words) ≡ names_bind l.code (drop l.w-index l.w-items)
