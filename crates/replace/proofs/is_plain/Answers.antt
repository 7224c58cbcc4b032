-- `replace::is_plain` meets its contract. Assumes nothing.
use borrow.Author.Tests.{eq-eqb}
use mathlib.Core.Path.{◌∙◌}
use Rattle.replace.proofs.replacing.Passing.{plain_symbol, plain_other}
use Rattle.replace.proofs.is_plain.Goals as goal

pub returns-then-w-eq-SYM : goal.returns-then-w-eq-SYM
returns-then-w-eq-SYM c = eq-eqb _ _ c.if-w-eq-SYM.true ∙ plain_symbol c.args.w c.if-w-eq-SYM.true

pub returns-else-w-eq-SYM : goal.returns-else-w-eq-SYM
returns-else-w-eq-SYM c = plain_other c.args.w c.if-w-eq-SYM.false _ c.is_passed.ensures
