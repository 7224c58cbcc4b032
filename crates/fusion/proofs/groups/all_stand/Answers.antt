-- `fusion::groups::all_stand` meets its contract. Assumes nothing.
use borrow.Author.Tests.{tests}
use borrow.Author.Rules.{rules}
use mathlib.Core.Path.{◌∙◌}
use mathlib.Core.Path.{refl}
use Rattle.spec_tree.specs.Bytes.{every}
use Rattle.std.proofs.lemmas.Iterator.{YieldsList-from_slice}
use Rattle.std.proofs.lemmas.Iterator.Search.{all_from_yields_List}
use Rattle.fusion.specs.groups.Answers.{switch_stands, all_stand}
use Rattle.fusion.proofs.Tests.{all_is}
use Rattle.fusion.proofs.groups.all_stand.Goals as goal

pub returns : goal.returns
unfolding all_stand every
returns c = let test = switch_stands c.args.tokens.now in
    all_from_yields_List test _ _ c.all.result c.all.ensures.ran (YieldsList-from_slice c.args.places.now cc) (λ x b q k. search (rules, tests))
    ∙ all_is (every test) test refl (λ x xs. refl) c.args.places.now
