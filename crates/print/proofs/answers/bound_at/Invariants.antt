use Rattle.std.proofs.Common.{◌≡◌, ◌-◌, ◌≤◌, drop}
use Rattle.laws.specs.answer.Seen.{bound_by}
use Rattle.print.proofs.answers.bound_at.Given as goal

abbrev pub invariant-loop-i : goal.invariant-loop-i
invariant-loop-i l = (l.i ≤ l.at) × (bound_by l.code 0 l.at l.words ≡ bound_by l.code 0 (l.at - l.i) (drop l.i l.words))

abbrev pub decreases-loop-i : goal.decreases-loop-i
decreases-loop-i l = l.at - l.i
