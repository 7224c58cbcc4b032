-- `topo_sort::links::take_linked` meets its contract. Assumes nothing.
use native.Mathlib.Omega.{arith}
use mathlib.Core.Path.{refl, ◌∙◌}
use Rattle.topo_sort.proofs.Loops.{taking_starts, taking_below, taking_turns, taking_ends}
use Rattle.topo_sort.proofs.links.Following.{top_below, top_joinable, top_some}
use Rattle.topo_sort.proofs.links.take_linked.Goals as goal

pub loop-top-init : goal.loop-top-init
loop-top-init c = let a = c.args in
    ((λ needs l. taking_starts needs a.count a.waiting.now _ a.taken.now _ c.requires.room.0.waiting_long (omega (arith, c.requires.room.0.stack_long, c.start-top.auto.stack)) (c.start-top.ensures needs l.waits)), (refl, refl))

pub bounds-taken-n : goal.bounds-taken-n
bounds-taken-n c = let a = c.args in
    let some = c.loop-top-test.true in
    let t = c.loop-top.invariant.0 c.requires.some_linked.needs c.requires.some_linked.linked in
    omega (arith, taking_below c.requires.some_linked.needs a.count a.taken.now c.loop-top.waiting c.loop-top.stack c.loop-top.taken c.loop-top.top c.loop-top.n t c.requires.room.0.taken_long some, c.requires.room.0.taken_long, t.taken_long)

pub offset_bounds-heads-i : goal.offset_bounds-heads-i
offset_bounds-heads-i c = let a = c.args in
    let some = c.loop-top-test.true in
    let t = c.loop-top.invariant.0 c.requires.some_linked.needs c.requires.some_linked.linked in
    omega (arith, top_below c.requires.some_linked.needs a.count a.heads.now a.links.now a.waiting.now c.requires.some_linked.linked a.taken.now c.loop-top.waiting c.loop-top.stack c.loop-top.taken c.loop-top.top c.loop-top.n t c.requires.room.0.taken_long some, c.requires.room.0.few)

pub bounds-heads-i : goal.bounds-heads-i
bounds-heads-i c = let a = c.args in
    let some = c.loop-top-test.true in
    let t = c.loop-top.invariant.0 c.requires.some_linked.needs c.requires.some_linked.linked in
    omega (arith, top_below c.requires.some_linked.needs a.count a.heads.now a.links.now a.waiting.now c.requires.some_linked.linked a.taken.now c.loop-top.waiting c.loop-top.stack c.loop-top.taken c.loop-top.top c.loop-top.n t c.requires.room.0.taken_long some, c.requires.room.1)

pub join_linked-top-requires : goal.join_linked-top-requires
join_linked-top-requires c = let a = c.args in
    let some = c.loop-top-test.true in
    let t = c.loop-top.invariant.0 c.requires.some_linked.needs c.requires.some_linked.linked in
    top_some c.requires.some_linked.needs a.count a.heads.now a.links.now a.waiting.now c.requires.some_linked.linked a.taken.now c.loop-top.waiting c.loop-top.stack c.loop-top.taken c.loop-top.top c.loop-top.n t c.requires.room.0.taken_long some

pub loop-top-smaller : goal.loop-top-smaller
loop-top-smaller c = let a = c.args in
    let some = c.loop-top-test.true in
    let t = c.loop-top.invariant.0 c.requires.some_linked.needs c.requires.some_linked.linked in
    omega (arith, taking_below c.requires.some_linked.needs a.count a.taken.now c.loop-top.waiting c.loop-top.stack c.loop-top.taken c.loop-top.top c.loop-top.n t c.requires.room.0.taken_long some)

pub loop-top-preserved : goal.loop-top-preserved
loop-top-preserved c = let a = c.args in
    let some = c.loop-top-test.true in (
      (λ needs l.
          taking_turns needs a.count a.taken.now c.loop-top.waiting c.loop-top.stack c.loop-top.taken c.loop-top.top c.loop-top.n (c.loop-top.invariant.0 needs l) c.requires.room.0.taken_long some _ _ _
          (c.join_linked-top.ensures needs a.count _ (top_joinable needs a.count a.heads.now a.links.now a.waiting.now l a.taken.now c.loop-top.waiting c.loop-top.stack c.loop-top.taken c.loop-top.top c.loop-top.n (c.loop-top.invariant.0 needs l) c.requires.room.0.taken_long some)) c.join_linked-top.auto.waiting c.join_linked-top.auto.stack),
      (c.join_linked-top.auto.waiting ∙ c.loop-top.invariant.1.0, c.join_linked-top.auto.stack ∙ c.loop-top.invariant.1.1),
    )

pub returns : goal.returns
returns c = let a = c.args in
    λ needs l. taking_ends needs a.count a.taken.now c.loop-top.waiting c.loop-top.stack c.loop-top.taken c.loop-top.top c.loop-top.n (c.loop-top.invariant.0 needs l) (omega (arith, c.loop-top-test.false)) c.requires.room.0.taken_long
