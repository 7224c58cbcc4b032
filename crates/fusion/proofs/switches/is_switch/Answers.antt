-- `fusion::switches::is_switch` meets its contract. Assumes nothing.
use native.Mathlib.Omega.{arith}
use mathlib.Core.Path.{◌∙◌}
use borrow.Author.Tests.{lt-leb}
use Rattle.fusion.proofs.switches.Words.{other_kind, has_operand}
use Rattle.fusion.proofs.switches.is_switch.Goals as goal

pub returns-then-w-ge-BRANCH : goal.returns-then-w-ge-BRANCH
returns-then-w-ge-BRANCH c = has_operand c.args.w (omega (arith, c.if-w-ge-BRANCH.true))

pub returns-else-w-ge-BRANCH : goal.returns-else-w-ge-BRANCH
returns-else-w-ge-BRANCH c = lt-leb 26 _ c.if-w-ge-BRANCH.false ∙ other_kind c.args.w (omega (arith, c.if-w-ge-BRANCH.false))
