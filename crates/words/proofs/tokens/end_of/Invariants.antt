use Rattle.std.proofs.Common.{◌-◌, ◌≤◌, ◌<◌, length}
use Rattle.words.proofs.tokens.Counting.{Ending}
use Rattle.words.proofs.tokens.end_of.Given as goal

abbrev pub invariant-loop-i : goal.invariant-loop-i
invariant-loop-i l = (0 < l.left) × (l.i < length l.tokens → l.left ≤ length l.tokens - l.i) × (l.at ≤ length l.tokens → Ending l.tokens l.at l.i l.left)
