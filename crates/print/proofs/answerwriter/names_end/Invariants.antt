use Rattle.print.proofs.answerwriter.BindingLaws.{NamesMet}
use Rattle.print.proofs.answerwriter.names_end.Given as goal

abbrev pub invariant-loop-i : goal.invariant-loop-i
invariant-loop-i l = NamesMet l.words l.at l.i
