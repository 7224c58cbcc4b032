-- `print::answers::binding` meets its contract. Assumes nothing.
use Rattle.fmt.specs.checked.Check.{rows_in}
use Rattle.laws.proofs.answer.CodeLaws.{let_unmade}
use Rattle.print.proofs.answers.Ends.{let_says}
use Rattle.print.proofs.answers.binding.Goals as goal

pub returns-then-words-at-ne-LET_CLASS : goal.returns-then-words-at-ne-LET_CLASS
returns-then-words-at-ne-LET_CLASS c = let_unmade (rows_in c.args.rows.now) c.args.words.now c.args.at c.requires.at_in_bounds c.requires.at_value c.if-words-at-ne-LET_CLASS.true

pub returns : goal.returns
returns c = let_says (rows_in c.args.rows.now) c.args.words.now c.args.at c.tree.result c.requires.at_in_bounds c.requires.at_value c.if-words-at-ne-LET_CLASS.false c.tree.ensures
