-- `print::answerwriter::tree` meets its contract. Assumes nothing.
use Rattle.print.proofs.answerwriter.TreeText.{tree_stands, tree_written}
use Rattle.print.proofs.answerwriter.tree.Goals as goal

pub expression-requires : goal.expression-requires
expression-requires c = tree_stands c.args.rows.now c.args.words.now c.args.at c.requires.0 c.requires.1

pub returns : goal.returns
returns c = λ t h. tree_written c.args.rows.now c.args.words.now c.args.at t h c.expression.ensures
