-- `fusion::tables::fit` meets its contract. Assumes nothing.
use borrow.Author.Tests.{tests}
use borrow.Author.Rules.{rules}
use mathlib.Core.Path.{◌∙◌}
use mathlib.Core.Path.{refl}
use lib.Dec.{leb}
use Rattle.std.proofs.lemmas.Iterator.{YieldsList-from_slice}
use Rattle.std.proofs.lemmas.Iterator.Search.{all_from_yields_List}
use Rattle.fusion.specs.tables.Names.{names_fit}
use Rattle.fusion.proofs.Tests.{all_is}
use Rattle.fusion.proofs.tables.fit.Goals as goal

pub returns : goal.returns
unfolding names_fit
returns c = all_from_yields_List (λ n. leb n 549755813888) _ _ c.all.result c.all.ensures.ran (YieldsList-from_slice c.args.numbers.now cc) (λ x b q k. search (rules, tests))
    ∙ all_is names_fit (λ n. leb n 549755813888) refl (λ x xs. refl) c.args.numbers.now
