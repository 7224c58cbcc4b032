-- `topo_sort::start` meets its contract. Assumes nothing.
use native.Mathlib.Omega.{arith}
use mathlib.Core.Path.{refl, ◌∙◌}
use Rattle.topo_sort.proofs.Stacks.{pushed_top}
use Rattle.topo_sort.proofs.Loops.{starting, starting_turns, started}
use Rattle.topo_sort.proofs.links.Following.{begun_linked}
use Rattle.topo_sort.proofs.start.Goals as goal

pub loop-j-init : goal.loop-j-init
loop-j-init c = let a = c.args in
    ((omega arith, (omega arith, refl)), (λ rules w. starting rules a.count a.waiting.now a.stack.now 0 refl))

pub loop-j-preserved : goal.loop-j-preserved
loop-j-preserved c = let a = c.args in
    let below = c.loop-j-test.true in
    let up = pushed_top _ c.loop-j.j c.loop-j.stack c.loop-j.top _ _ c.push_free-top.ensures (omega (arith, c.loop-j.invariant.0.0, c.loop-j.invariant.0.1.1, below, c.requires.1)) in (
      (omega (arith, up, c.loop-j.invariant.0.0), (omega (arith, below), c.push_free-top.ensures.long ∙ c.loop-j.invariant.0.1.1)),
      (λ rules w.
          starting_turns rules a.count a.waiting.now a.stack.now a.waiting.now c.loop-j.stack c.loop-j.top c.loop-j.j (c.loop-j.invariant.1 rules w) c.requires.0 c.requires.1 below _ refl a.waiting.now _ _
          (begun_linked _ c.loop-j.j a.waiting.now c.loop-j.stack c.loop-j.top _ _ (w c.loop-j.j below) c.push_free-top.ensures)),
    )

pub returns : goal.returns
returns c = let a = c.args in
    λ rules w. started rules a.count a.waiting.now a.stack.now a.waiting.now c.loop-j.stack c.loop-j.top c.loop-j.j (c.loop-j.invariant.1 rules w) c.requires.0 c.requires.1 c.loop-j-test.false
