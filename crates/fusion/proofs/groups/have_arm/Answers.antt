-- `fusion::groups::have_arm` meets its contract. Assumes nothing.
use borrow.Author.Tests.{tests}
use borrow.Author.Rules.{rules}
use mathlib.Core.Path.{◌∙◌}
use mathlib.Core.Path.{refl}
use Rattle.std.proofs.lemmas.Iterator.{YieldsList-from_slice}
use Rattle.std.proofs.lemmas.Iterator.Search.{all_from_yields_List}
use Rattle.fusion.specs.groups.Copying.{armed_at, all_armed}
use Rattle.fusion.proofs.Tests.{all_is}
use Rattle.fusion.proofs.groups.have_arm.Goals as goal

pub returns : goal.returns
unfolding all_armed
returns c = let test = armed_at c.args.tokens.now c.args.arm in
    all_from_yields_List test _ _ c.all.result c.all.ensures.ran (YieldsList-from_slice c.args.group.now cc) (λ x b q k. search (rules, tests))
    ∙ all_is (all_armed c.args.tokens.now c.args.arm) test refl (λ x xs. refl) c.args.group.now
