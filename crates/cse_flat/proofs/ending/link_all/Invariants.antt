use lib.ListN.{length}
use Rattle.cse_flat.proofs.ending.Linking.{SoFar}
use Rattle.cse_flat.proofs.ending.link_all.Given as goal

abbrev pub invariant-loop-j : goal.invariant-loop-j
invariant-loop-j l = SoFar l.trees.results l.trees.places.now l.trees.tokens.now (length l.initial.heads) l.heads l.links l.waiting l.n l.j
