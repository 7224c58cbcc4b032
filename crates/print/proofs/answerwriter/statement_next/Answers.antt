-- `print::answerwriter::statement_next` meets its contract. Assumes nothing.
use Rattle.std.proofs.Common.{[], sym, ◌∙◌}
use borrow.Author.Tests.{le-ltb}
use Rattle.print.proofs.told.LineLoops.{ahead_is, ahead_past}
use Rattle.print.proofs.answerwriter.statement_next.Goals as goal

pub returns-then-at-words : goal.returns-then-at-words
returns-then-at-words c = sym (ahead_is [] c.args.words.now c.args.at c.if-at-words.true)

pub returns-else-at-words : goal.returns-else-at-words
returns-else-at-words c = le-ltb _ _ c.if-at-words.false ∙ sym (ahead_past [] c.args.words.now c.args.at c.if-at-words.false)
