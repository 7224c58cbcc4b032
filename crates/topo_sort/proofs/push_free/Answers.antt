-- `topo_sort::push_free` meets its contract. Assumes nothing.
use mathlib.Core.Path.{◌≡◌}
use native.Mathlib.Omega.{arith}
use Rattle.topo_sort.proofs.Stacks.{is_pushed}
use Rattle.topo_sort.proofs.push_free.Goals as goal

pub returns : goal.returns
returns c = let a = c.args in
    let none : a.left ≡ 0 = omega (arith, c.if-left-gt0.false) in
    is_pushed a.left a.j a.stack.now a.top none (c.requires.1 none)
