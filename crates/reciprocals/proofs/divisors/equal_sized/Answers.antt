-- `reciprocals::divisors::equal_sized` meets its contract. Assumes nothing.
use Rattle.reciprocals.proofs.divisors.Sizes.{sizes_differ}
use borrow.Author.Tests.{ne_eqb}
use mathlib.Core.Path.{◌∙◌}
use Rattle.reciprocals.proofs.divisors.equal_sized.Goals as goal

pub returns-else-sizes-i : goal.returns-else-sizes-i
returns-else-sizes-i c = ne_eqb _ _ c.if-sizes-i.false ∙ sizes_differ c.args.tokens.now c.args.sizes.now c.args.i c.args.j c.requires.size_there.0 c.requires.size_there.1 c.if-sizes-i.false
