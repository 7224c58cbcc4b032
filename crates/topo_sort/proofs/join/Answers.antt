-- `topo_sort::join` meets its contract. Assumes nothing.
use Rattle.topo_sort.proofs.Loops.{joining_room, joining_turns, joining_ends}
use Rattle.topo_sort.proofs.join.Goals as goal

pub meet-t-requires-clause-top_in_bounds : goal.meet-t-requires-clause-top_in_bounds
meet-t-requires-clause-top_in_bounds c = let a = c.args in let t = c.loop-j in let r = c.requires.count_in_bounds in
    joining_room a.needs.now a.count a.i a.waiting.now a.stack.now a.top t.waiting t.stack t.t t.j t.invariant r.0 r.1 c.loop-j-test.true

pub loop-j-preserved : goal.loop-j-preserved
loop-j-preserved c = let a = c.args in let t = c.loop-j in let r = c.requires.count_in_bounds in
    joining_turns a.needs.now a.count a.i a.waiting.now a.stack.now a.top t.waiting t.stack t.t t.j t.invariant r.0 r.1 c.loop-j-test.true _ _ _ c.meet-t.ensures

pub returns : goal.returns
returns c = let a = c.args in let t = c.loop-j in let r = c.requires.count_in_bounds in
    joining_ends a.needs.now a.count a.i a.waiting.now a.stack.now a.top t.waiting t.stack t.t t.j t.invariant r.0 r.1 c.loop-j-test.false
