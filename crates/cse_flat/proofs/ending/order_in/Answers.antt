use Prim.Native.Nat.{ℕ, ◌*◌}
use native.Mathlib.Omega.{arith}
use mathlib.Core.Path.{sym, ◌∙◌, ap}
use lib.ListN.{replicate}
use Rattle.reciprocals.specs.final.Ready.{marks}
use Rattle.reciprocals.proofs.final.Deciding.{ordered_so}
use Rattle.cse_flat.specs.trees.Runs.{let_run}
use Rattle.cse_flat.proofs.ending.Linking.{same_order}
use borrow.Author.Rules.{rules}
use Rattle.cse_flat.proofs.ending.order_in.Goals as goal

pub returns : goal.returns
returns c =
    let t = c.args.trees.now in
    let e = c.bindings.ensures.0 in
    same_order t.results t.places.now t.tokens.now _ _ c.args.taken.now _ _ e
    (ordered_so _ _ _ c.args.taken.now _ c.bindings.ensures.1 (search rules) (search rules) (omega (arith, e, c.requires.taken_long)) t.results t.places.now t.tokens.now c.args.bits.now
    (c.requires.bits_value.0 ∙ ap (λ (n : ℕ). replicate {A = ℕ} (32 * n) 0) (sym e)) (c.mark_all.ensures ∙ ap (λ (n : ℕ). marks (let_run t) n c.args.bits.now) (sym e)) _ _ _ _ c.order.auto.taken c.order.ensures)
