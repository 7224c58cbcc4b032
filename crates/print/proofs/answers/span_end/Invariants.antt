use Rattle.std.proofs.Common.{◌-◌, ◌≤◌, ◌<◌}
use Rattle.laws.specs.answer.Seen.{Left}
use Rattle.print.proofs.answers.span_end.Given as goal

abbrev pub invariant-loop-i : goal.invariant-loop-i
invariant-loop-i l = (0 < l.left) × (l.i < l.by → l.left ≤ l.by - l.i) × Left l.words l.at l.i l.left
