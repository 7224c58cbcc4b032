use native.Mathlib.Omega.{arith}
use Rattle.reciprocals.proofs.final.Taking.{part_is, run_within}
use Rattle.cse_flat.proofs.trees.FinalTrees.words.Goals as goal

pub offset_bounds-self-self : goal.offset_bounds-self-self
offset_bounds-self-self c =
    let r = c.args.self.now.ready in omega (arith, c.end_of.ensures, run_within r c.args.i c.if-i-self.true, r.short, r.few)

pub slice_bounds-result-end : goal.slice_bounds-result-end
slice_bounds-result-end c = omega (arith, c.end_of.ensures, run_within c.args.self.now.ready c.args.i c.if-i-self.true)

pub returns-then-i-self : goal.returns-then-i-self
returns-then-i-self c = part_is c.args.self.now.ready c.args.i c.if-i-self.true _ c.end_of.ensures
