-- `topo_sort::take_all` meets its contract. Assumes nothing.
use mathlib.Core.Path.{refl, ◌∙◌}
use native.Mathlib.Omega.{arith}
use Rattle.topo_sort.proofs.Loops.{taking_starts, taking_below, taking_waits, taking_room, taking_turns, taking_ends}
use Rattle.topo_sort.proofs.take_all.Goals as goal

pub loop-top-init : goal.loop-top-init
loop-top-init c = let a = c.args in (
  taking_starts a.needs.now a.count _ _ a.taken.now _ (omega (arith, c.requires.waiting_long, c.count_all.auto.waiting)) (omega (arith, c.requires.stack_long, c.start-top.auto.stack)) (c.start-top.ensures a.needs.now c.count_all.ensures),
  (refl, refl),
)

pub bounds-taken-n : goal.bounds-taken-n
bounds-taken-n c = let a = c.args in
    let some = c.loop-top-test.true in
    omega (arith, taking_below a.needs.now a.count a.taken.now c.loop-top.waiting c.loop-top.stack c.loop-top.taken c.loop-top.top c.loop-top.n c.loop-top.invariant.0 c.requires.taken_long some, c.requires.taken_long, c.loop-top.invariant.0.taken_long)

pub join-top-requires : goal.join-top-requires
join-top-requires c = let a = c.args in
    let some = c.loop-top-test.true in
    record { count_in_bounds = (c.loop-top.invariant.0.wide, taking_room a.needs.now a.count a.taken.now c.loop-top.waiting c.loop-top.stack c.loop-top.taken c.loop-top.top c.loop-top.n c.loop-top.invariant.0 c.requires.taken_long some); by_index = taking_waits a.needs.now a.count a.taken.now c.loop-top.waiting c.loop-top.stack c.loop-top.taken c.loop-top.top c.loop-top.n c.loop-top.invariant.0 c.requires.taken_long some }

pub loop-top-smaller : goal.loop-top-smaller
loop-top-smaller c = let a = c.args in
    let some = c.loop-top-test.true in
    omega (arith, taking_below a.needs.now a.count a.taken.now c.loop-top.waiting c.loop-top.stack c.loop-top.taken c.loop-top.top c.loop-top.n c.loop-top.invariant.0 c.requires.taken_long some)

pub loop-top-preserved : goal.loop-top-preserved
loop-top-preserved c = let a = c.args in
    let some = c.loop-top-test.true in (
      taking_turns a.needs.now a.count a.taken.now c.loop-top.waiting c.loop-top.stack c.loop-top.taken c.loop-top.top c.loop-top.n c.loop-top.invariant.0 c.requires.taken_long some _ _ _ c.join-top.ensures c.join-top.auto.waiting c.join-top.auto.stack,
      (c.join-top.auto.waiting ∙ c.loop-top.invariant.1.0, c.join-top.auto.stack ∙ c.loop-top.invariant.1.1),
    )

pub returns : goal.returns
returns c = let a = c.args in
    taking_ends a.needs.now a.count a.taken.now c.loop-top.waiting c.loop-top.stack c.loop-top.taken c.loop-top.top c.loop-top.n c.loop-top.invariant.0 (omega (arith, c.loop-top-test.false)) c.requires.taken_long
