use Rattle.node_rows.proofs.rows.Sums.{Deepening}
use Rattle.node_rows.proofs.rows.deepest.Given as goal

abbrev pub invariant-loop-n : goal.invariant-loop-n
invariant-loop-n l = Deepening l.levels l.numbers l.level l.n-index
