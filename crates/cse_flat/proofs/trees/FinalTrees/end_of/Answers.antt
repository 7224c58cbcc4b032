use Prim.Native.Nat.{ℕ, suc, ◌+◌}
use native.Mathlib.Omega.{arith}
use mathlib.Core.Path.{◌≡◌, ◌∙◌, ap}
use lib.ListN.{get_or}
use Rattle.reciprocals.proofs.final.Taking.{trees_few, next_is, last_is}
use Rattle.cse_flat.proofs.trees.FinalTrees.end_of.Goals as goal

pub overflow_add-i : goal.overflow_add-i
overflow_add-i c = omega (arith, c.requires, trees_few c.args.self.now.ready)

pub returns-then-i-self : goal.returns-then-i-self
returns-then-i-self c = let a = c.args in
    let z : a.i + 1 ≡ suc a.i = omega arith in
    ap (λ (x : ℕ). get_or a.self.now.starts.now x 0) z ∙ next_is a.self.now.ready a.i c.requires (omega (arith, c.if-i-self.true))

pub returns-else-i-self : goal.returns-else-i-self
returns-else-i-self c = last_is c.args.self.now.ready c.args.i c.requires (omega (arith, c.if-i-self.false))
