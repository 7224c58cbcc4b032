-- `fusion::groups::stands` meets its contract. Assumes nothing.
use native.Mathlib.Omega.{arith}
use mathlib.Core.Path.{◌∙◌}
use borrow.Author.Tests.{le-ltb}
use lib.ListN.{length}
use Rattle.fusion.proofs.groups.Standing.{past_end, by_word}
use Rattle.fusion.proofs.groups.stands.Goals as goal

pub returns-then-p-tokens : goal.returns-then-p-tokens
returns-then-p-tokens c = by_word c.args.tokens.now c.args.p (omega (arith, c.if-p-tokens.true)) _ c.is_switch.ensures

pub returns-else-p-tokens : goal.returns-else-p-tokens
returns-else-p-tokens c = le-ltb c.args.p (length c.args.tokens.now) c.if-p-tokens.false ∙ past_end c.args.tokens.now c.args.p (omega (arith, c.if-p-tokens.false))
