use Prim.Native.Nat.{ℕ}
use mathlib.Core.Path.{◌∙◌, ap}
use Rattle.reciprocals.specs.final.Ready.{marks}
use Rattle.cse_flat.specs.trees.Runs.{let_run}
use Rattle.reciprocals.proofs.final.Marking.{marked_begins, marked_turns, marked_ends}
use Rattle.cse_flat.proofs.ending.mark_all.Goals as goal

pub loop-j-init : goal.loop-j-init
loop-j-init c = marked_begins (let_run c.args.trees.now) c.args.bits.now _

pub loop-j-preserved : goal.loop-j-preserved
loop-j-preserved c = marked_turns (let_run c.args.trees.now) c.loop-j.invariant c.loop-j-test.true _ c.mark_one.ensures

pub returns : goal.returns
returns c =
    let t = c.args.trees.now in
    marked_ends (let_run t) c.loop-j.invariant c.loop-j-test.false ∙ ap (λ (n : ℕ). marks (let_run t) n c.args.bits.now) c.bindings-j-end.ensures.0
