-- `reciprocals::reciprocal::no_division` meets its contract. Assumes nothing.
use mathlib.Core.Path.{◌∙◌}
use mathlib.Core.Bool.{not}
use lib.Dec.{eqb}
use Rattle.std.proofs.Common.{rules, tests}
use Rattle.std.proofs.lemmas.Iterator.{YieldsList-from_slice}
use Rattle.std.proofs.lemmas.Iterator.Search.{all_from_yields_List}
use Rattle.spec_tree.specs.Tokens.{kind_of}
use Rattle.reciprocals.proofs.reciprocal.Unmoved.{none_divides}
use Rattle.reciprocals.proofs.reciprocal.no_division.Goals as goal

pub returns : goal.returns
returns c =
    all_from_yields_List (λ w. not (eqb (kind_of w) 6)) _ _ c.all.result c.all.ensures.ran (YieldsList-from_slice c.args.words.now cc)
    (λ x b q k. search (rules, tests))
    ∙ none_divides c.args.words.now
