-- `topo_sort::order` meets its contract. Assumes nothing.
use native.Mathlib.Omega.{arith}
use Rattle.topo_sort.proofs.Whole.{no_room, ordered}
use Rattle.topo_sort.proofs.order.Goals as goal

pub returns-then-count-gt-MOST : goal.returns-then-count-gt-MOST
returns-then-count-gt-MOST c = let a = c.args in no_room a.needs.now a.count a.waiting.now a.stack.now a.taken.now (λ h. grind arith)

pub returns : goal.returns
returns c = let a = c.args in
    ordered a.needs.now a.count a.waiting.now a.stack.now a.taken.now
    (record { few = omega (arith, c.if-count-gt-MOST.false); rows = omega (arith, c.if-needs-count.false); wide = omega (arith, c.if-waiting-count.false); deep = omega (arith, c.if-stack-count.false); long = omega (arith, c.if-taken-count.false) })
    _ _ _ _ c.take_all-n.ensures _ c.all_taken.ensures
