-- `statements::holding::no_switch` meets its contract. Assumes nothing.
use borrow.Author.Tests.{tests}
use borrow.Author.Rules.{rules}
use mathlib.Core.Path.{refl, sym, ◌∙◌, ap}
use mathlib.Core.Bool.{Bool, not, ◌&&◌}
use Rattle.std.proofs.lemmas.Iterator.{YieldsList-from_slice}
use Rattle.std.proofs.lemmas.Iterator.Search.{all_from_yields_List}
use Rattle.fusion.specs.switches.Listing.{switch_word}
use Rattle.fusion.specs.Switchless.{no_switch_words}
use Rattle.fusion.proofs.Tests.{all_is}
use Rattle.statements.proofs.holding.Switch.{word_arms}
use Rattle.statements.proofs.holding.no_switch.Goals as goal

pub returns : goal.returns
unfolding no_switch_words
returns c =
    all_from_yields_List (λ w. not (switch_word w)) _ _ c.all.result c.all.ensures.ran (YieldsList-from_slice c.args.words.now cc) (λ x b q k. search (rules, tests))
    ∙ all_is no_switch_words (λ w. not (switch_word w)) refl (λ w ws. ap (λ (b : Bool). not b && no_switch_words ws) (sym (word_arms w))) c.args.words.now
