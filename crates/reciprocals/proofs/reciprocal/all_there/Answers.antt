-- `reciprocals::reciprocal::all_there` meets its contract. Assumes nothing.
use mathlib.Core.Path.{◌∙◌}
use Rattle.std.proofs.Common.{rules, tests}
use Rattle.std.proofs.lemmas.Iterator.{YieldsList-from_slice}
use Rattle.std.proofs.lemmas.Iterator.Search.{all_from_yields_List}
use Rattle.spec_tree.specs.Tokens.{run_at}
use Rattle.words.specs.words.Words.{some_trees}
use Rattle.reciprocals.proofs.reciprocal.There.{is_there, all_tested}
use Rattle.reciprocals.proofs.reciprocal.all_there.Goals as goal

pub returns : goal.returns
returns c =
    let base = c.args.base.now in
    all_from_yields_List (λ p. some_trees (run_at base p)) _ _ c.all.result c.all.ensures.ran (YieldsList-from_slice c.args.places.now cc)
    (λ x b q k. search (rules, tests, is_there))
    ∙ all_tested base c.args.places.now
