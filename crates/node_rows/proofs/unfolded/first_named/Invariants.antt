use Rattle.node_rows.proofs.unfolded.ChainLaws.{Search}
use Rattle.node_rows.proofs.unfolded.first_named.Given as goal

abbrev pub invariant-loop-q : goal.invariant-loop-q
invariant-loop-q l = Search l.rows l.r l.q

abbrev pub decreases-loop-q : goal.decreases-loop-q
decreases-loop-q l = l.q
