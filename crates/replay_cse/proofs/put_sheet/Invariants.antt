use Rattle.std.proofs.Common.{◌≤◌, length}
use Rattle.replay_cse.proofs.put_sheet.Given as goal

abbrev pub invariant-loop-b : goal.invariant-loop-b
invariant-loop-b l = l.n ≤ length l.sheet
