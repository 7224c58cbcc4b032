use Rattle.reciprocals.proofs.final.Writing.{Counting}
use Rattle.cse_flat.proofs.ending.count_rows.Given as goal

abbrev pub invariant-loop-q : goal.invariant-loop-q
invariant-loop-q l = Counting l.trees.results l.trees.places.now l.trees.tokens.now l.taken l.rows l.q
