use Prim.Native.Nat.{ℕ, ◌-◌}
use Rattle.std.specs.Prelude.{Err}
use mathlib.Core.Path.{◌∙◌, refl, sym, ap, subst}
use lib.ListN.{length, take}
use Rattle.reciprocals.specs.final.Ready.{Positions, lent_rows}
use Rattle.cse_flat.specs.ending.Answers.{by_number}
use Rattle.cse_flat.specs.trees.Runs.{let_count, rows_of_all}
use Rattle.reciprocals.proofs.final.Deciding.{settled_ring, settled_never, settled_all, settled_positions}
use Rattle.cse_flat.proofs.ending.Ends.{Ends, same_ends, ring_ends}
use Rattle.cse_flat.proofs.ending.finish_settled.Goals as goal

pub write_answer-requires-clause-positions : goal.write_answer-requires-clause-positions
write_answer-requires-clause-positions c =
    let t = c.args.trees.now in
    subst (λ (n : ℕ). Positions (take n c.take_in_order.new.taken) (let_count t)) (sym c.bindings.ensures.0) (settled_positions t.ready (let_count t) refl _ _ _ c.take_in_order.ensures c.in-Ok.is)

pub unreachable-requires : goal.unreachable-requires
unreachable-requires c = let t = c.args.trees.now in settled_never t.ready (let_count t) refl _ _ _ c.take_in_order.ensures (c.in-Err-Broken.is ∙ ap Err c.in-Err-Broken.field-0-is)

pub returns-in-Ok : goal.returns-in-Ok
returns-in-Ok c =
    let t = c.args.trees.now in
    let lent = length c.args.table.now in
    same_ends _ _ (settled_all t.ready (let_count t) refl _ _ _ c.take_in_order.ensures c.in-Ok.is lent) c.args.table.now _ _
    (subst (λ (n : ℕ). Ends (lent_rows lent (rows_of_all t (take n c.take_in_order.new.taken)) (length t.starts.now - t.results)) c.args.table.now (by_number c.write_answer.result) c.write_answer.new.table) c.bindings.ensures.0 c.write_answer.ensures)

pub returns-in-Err-Ring : goal.returns-in-Err-Ring
returns-in-Err-Ring c = let t = c.args.trees.now in ring_ends _ (settled_ring t.ready (let_count t) refl _ _ _ c.take_in_order.ensures _ _ (c.in-Err-Ring.is ∙ ap Err c.in-Err-Ring.field-0-is)) c.args.table.now
