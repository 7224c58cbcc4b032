-- `replay_cse::say_lines` is safe and ends: each line's next place is further on. Assumes nothing.
use Prim.Native.Nat.{◌-◌}
use native.Mathlib.Omega.{arith}
use mathlib.Core.Path.{◌≡◌, sym, ◌∙◌}
use lib.ListN.{length}
use Rattle.print.proofs.lines.Progress.{goes_on}
use Rattle.replay_cse.proofs.say_lines.Goals as goal

pub loop-at-smaller : goal.loop-at-smaller
loop-at-smaller c = omega (arith, (goes_on c.args.rows.now c.args.answer.now c.loop-at.at _ _ _ (sym c.in-Ok.is ∙ c.line_at.ensures.0) c.line_at.ensures.1).0, c.loop-at-test.true)
