use Prim.Native.Nat.{◌-◌}
use native.Mathlib.Omega.{arith}
use mathlib.Core.Path.{◌≡◌, sym, ◌∙◌}
use lib.ListN.{length}
use Rattle.print.proofs.lines.Progress.{goes_on}
use borrow.Author.Rules.{rules}
use Rattle.replay_cse.proofs.say_lines.Given as goal

abbrev pub invariant-loop-at : goal.invariant-loop-at
invariant-loop-at l = length l.out ≡ 65536

abbrev pub decreases-loop-at : goal.decreases-loop-at
decreases-loop-at l = length l.answer - l.at
