-- `statements::Scope::mark_stmts` meets its contract. Assumes nothing.
use mathlib.Core.Path.{refl, ◌∙◌}
use Rattle.statements.proofs.Marking.{marked_begins, marked_turns}
use Rattle.statements.proofs.Scope.mark_stmts.Goals as goal

pub loop-p-init : goal.loop-p-init
loop-p-init c = (marked_begins c.requires.prepared c.args.bits.now c.args.count, refl)

pub loop-p-preserved : goal.loop-p-preserved
loop-p-preserved c = (marked_turns c.requires.prepared c.loop-p.invariant.0 c.loop-p-test.true _ c.mark_stmt.ensures, c.mark_stmt.auto.tree ∙ c.loop-p.invariant.1)
