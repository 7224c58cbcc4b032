-- `print::answerwriter::write_answer` meets its contract. Assumes nothing.
use Rattle.print.proofs.answerwriter.write_answer.Goals as goal

pub results-requires : goal.results-requires
results-requires c = (c.requires.0.results, (c.bindings-p.ensures c.requires.0 c.requires.1).0)

pub returns : goal.returns
returns c = λ a h. (c.bindings-p.ensures a h).1 _ _ (c.results.ensures a.results (c.bindings-p.ensures a h).0)
