-- `replace::replaceable::are_formed` meets its contract. Assumes nothing.
use Rattle.std.proofs.Common.{◌∙◌, rules, tests}
use Rattle.std.proofs.lemmas.Iterator.{YieldsList-from_slice}
use Rattle.std.proofs.lemmas.Iterator.Search.{all_from_yields_List}
use Rattle.replace.specs.replacing.Replacing.{formed_word}
use Rattle.replace.proofs.replaceable.Tests.{every_is}
use Rattle.replace.proofs.replaceable.are_formed.Goals as goal

pub returns : goal.returns
returns c = all_from_yields_List formed_word _ _ _ c.all.ensures.ran (YieldsList-from_slice c.args.tokens.now (cc)) (λ x b q k. search (rules, tests)) ∙ every_is formed_word c.args.tokens.now
