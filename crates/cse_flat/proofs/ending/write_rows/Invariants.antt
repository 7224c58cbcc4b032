use Rattle.reciprocals.proofs.final.Writing.{Writing}
use Rattle.cse_flat.proofs.ending.write_rows.Given as goal

abbrev pub invariant-loop-q : goal.invariant-loop-q
invariant-loop-q l = Writing l.trees.results l.trees.places.now l.trees.tokens.now l.taken l.initial.table l.table l.at l.q
