use mathlib.Core.Path.{◌≡◌}
use lib.ListN.{length}
use Rattle.statements.proofs.Marking.{Marked}
use Rattle.statements.proofs.Scope.mark_stmts.Given as goal

abbrev pub invariant-loop-p : goal.invariant-loop-p
invariant-loop-p l = Marked l.self.tokens.now l.self.results l.self.first l.self.places.now l.self.numbers.now l.initial.bits l.count l.bits l.p × (length l.tree ≡ length l.initial.tree)
