-- `words::tokens::operand_count` meets its contract. Assumes nothing.
use native.Mathlib.Omega.{arith}
use mathlib.Core.Path.{sym}
use Rattle.spec_tree.proofs.TokenLaws.{leaf_takes, operation_takes}
use Rattle.words.proofs.tokens.operand_count.Goals as goal

pub returns-then-w-le-CONST : goal.returns-then-w-le-CONST
returns-then-w-le-CONST c = sym (leaf_takes c.args.w (omega (arith, c.if-w-le-CONST.true)))

pub returns-else-w-le-CONST : goal.returns-else-w-le-CONST
returns-else-w-le-CONST c = omega (arith, operation_takes c.args.w (omega (arith, c.if-w-le-CONST.false)))
