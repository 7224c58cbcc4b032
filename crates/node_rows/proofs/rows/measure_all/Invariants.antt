use Rattle.node_rows.proofs.rows.Sums.{Summing, Deepening}
use Rattle.node_rows.proofs.rows.measure_all.Given as goal

abbrev pub invariant-loop-n : goal.invariant-loop-n
invariant-loop-n l = Summing l.sizes l.numbers l.size l.n-index × Deepening l.levels l.numbers l.level l.n-index
