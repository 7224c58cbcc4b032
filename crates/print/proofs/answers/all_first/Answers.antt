-- `print::answers::all_first` meets its contract. Assumes nothing.
use Rattle.std.proofs.Common.{◌∙◌, rules, tests}
use Rattle.std.proofs.lemmas.Iterator.{YieldsList-from_slice}
use Rattle.std.proofs.lemmas.Iterator.Search.{all_from_yields_List}
use Rattle.fmt.specs.checked.Check.{rows_in}
use Rattle.laws.specs.answer.First.{first_word}
use Rattle.print.proofs.answers.Lists.{every_is}
use Rattle.print.proofs.answers.all_first.Goals as goal

pub returns : goal.returns
returns c =
    let first = first_word (rows_in c.args.rows.now) in
    all_from_yields_List first _ _ c.all.result c.all.ensures.ran (YieldsList-from_slice c.args.words.now cc) (λ x b q k. search (rules, tests)) ∙ every_is first c.args.words.now
