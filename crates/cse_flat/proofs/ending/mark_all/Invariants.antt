use Rattle.cse_flat.specs.trees.Runs.{let_run}
use Rattle.reciprocals.proofs.final.Marking.{Marked}
use Rattle.cse_flat.proofs.ending.mark_all.Given as goal

abbrev pub invariant-loop-j : goal.invariant-loop-j
invariant-loop-j l = Marked (let_run l.trees) l.initial.bits l.j-end l.bits l.j
