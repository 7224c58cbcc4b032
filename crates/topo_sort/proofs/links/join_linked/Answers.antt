-- `topo_sort::links::join_linked` meets its contract. Assumes nothing.
use native.Mathlib.Omega.{arith}
use mathlib.Core.Path.{◌∙◌}
use Rattle.topo_sort.proofs.links.Following.{meeting, meeting_wide, meeting_waits, meeting_room, following_turns, following_ends}
use Rattle.topo_sort.proofs.links.join_linked.Goals as goal

pub meet_need-t-requires : goal.meet_need-t-requires
meet_need-t-requires c = let a = c.args in
    let f = c.loop-h.invariant.1 c.requires.needs c.requires.count c.requires.stmt c.requires.joinable in
    let m = meeting c.requires.needs c.requires.count c.requires.stmt a.links.now a.head a.waiting.now a.stack.now a.top c.requires.joinable c.loop-h.waiting c.loop-h.stack c.loop-h.t c.loop-h.h f c.loop-h-test.true in
    record { j_in_bounds = (meeting_wide c.requires.needs c.requires.count c.requires.stmt a.links.now a.head a.waiting.now a.stack.now a.top c.requires.joinable c.loop-h.waiting c.loop-h.stack c.loop-h.t c.loop-h.h m, m.state.inside); bound = meeting_waits c.requires.needs c.requires.count c.requires.stmt a.links.now a.head a.waiting.now a.stack.now a.top c.requires.joinable c.loop-h.waiting c.loop-h.stack c.loop-h.t c.loop-h.h m; top_in_bounds = meeting_room c.requires.needs c.requires.count c.requires.stmt a.links.now a.head a.waiting.now a.stack.now a.top c.requires.joinable c.loop-h.waiting c.loop-h.stack c.loop-h.t c.loop-h.h m }

pub loop-h-smaller : goal.loop-h-smaller
loop-h-smaller c = let a = c.args in
    let f = c.loop-h.invariant.1 c.requires.needs c.requires.count c.requires.stmt c.requires.joinable in
    (meeting c.requires.needs c.requires.count c.requires.stmt a.links.now a.head a.waiting.now a.stack.now a.top c.requires.joinable c.loop-h.waiting c.loop-h.stack c.loop-h.t c.loop-h.h f c.loop-h-test.true).back

pub loop-h-preserved : goal.loop-h-preserved
loop-h-preserved c = let a = c.args in
    let some = c.loop-h-test.true in
    let f = c.loop-h.invariant.1 c.requires.needs c.requires.count c.requires.stmt c.requires.joinable in
    let back = (meeting c.requires.needs c.requires.count c.requires.stmt a.links.now a.head a.waiting.now a.stack.now a.top c.requires.joinable c.loop-h.waiting c.loop-h.stack c.loop-h.t c.loop-h.h f some).back in (
      (omega (arith, back, c.loop-h.invariant.0.0), (c.meet_need-t.auto.waiting ∙ c.loop-h.invariant.0.1.0, c.meet_need-t.auto.stack ∙ c.loop-h.invariant.0.1.1)),
      (λ rules count i j.
          following_turns rules count i a.links.now a.head a.waiting.now a.stack.now a.top j c.loop-h.waiting c.loop-h.stack c.loop-h.t c.loop-h.h
          (meeting rules count i a.links.now a.head a.waiting.now a.stack.now a.top j c.loop-h.waiting c.loop-h.stack c.loop-h.t c.loop-h.h (c.loop-h.invariant.1 rules count i j) some) _ _ _ c.meet_need-t.ensures),
    )

pub returns : goal.returns
returns c = let a = c.args in
    λ rules count i j. following_ends rules count i a.links.now a.head a.waiting.now a.stack.now a.top j c.loop-h.waiting c.loop-h.stack c.loop-h.t c.loop-h.h (c.loop-h.invariant.1 rules count i j) (omega (arith, c.loop-h-test.false))
