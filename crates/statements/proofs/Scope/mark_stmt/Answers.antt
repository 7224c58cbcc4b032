-- `statements::Scope::mark_stmt` meets its contract. Assumes nothing.
use mathlib.Core.Path.{◌∙◌}
use Rattle.statements.proofs.Held.{held_room}
use Rattle.statements.proofs.Keys.{grouped}
use Rattle.statements.proofs.Marking.{reads_same, let_reads, later_reads, stmt_group}
use Rattle.statements.proofs.Scope.mark_stmt.Goals as goal

pub mark_match-requires-clause-grouped : goal.mark_match-requires-clause-grouped
mark_match-requires-clause-grouped c = grouped c.requires.prepared

pub mark_match-requires-clause-g_in_bounds : goal.mark_match-requires-clause-g_in_bounds
mark_match-requires-clause-g_in_bounds c = (stmt_group c.requires.prepared c.args.p c.if-p-lets.false c.requires.p_bound.0, held_room c.requires.prepared _ c.requires.p_bound.1)

pub returns-then-p-lets : goal.returns-then-p-lets
returns-then-p-lets c = let a = c.args in
    c.mark_let.ensures ∙ reads_same a.self.now.first _ a.self.now.numbers.now a.ends.now _ _ a.p a.bits.now (let_reads c.requires.prepared a.p c.if-p-lets.true)

pub returns-else-p-lets : goal.returns-else-p-lets
returns-else-p-lets c = let a = c.args in
    c.mark_match.ensures ∙ reads_same a.self.now.first _ a.self.now.numbers.now a.ends.now _ _ a.p a.bits.now (later_reads c.requires.prepared a.p c.if-p-lets.false)
