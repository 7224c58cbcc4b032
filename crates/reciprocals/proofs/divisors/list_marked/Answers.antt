-- `reciprocals::divisors::list_marked` meets its contract. Assumes nothing.
use Rattle.reciprocals.proofs.divisors.Marked.{starts, turn_none, turn_one, list_ends}
use Rattle.reciprocals.proofs.divisors.list_marked.Goals as goal
use Rattle.reciprocals.proofs.divisors.list_marked.Goals.{in-Some, in_default}

pub loop-p-init : goal.loop-p-init
loop-p-init c = let w = c.args.tokens.now in let scoped = c.args.scoped in starts w scoped c.args.places.now

pub loop-p-preserved : goal.loop-p-preserved
loop-p-preserved c =
    let a = c.args in
    elim c.match-marked_divisor.branch [
      | in-Some w ↦
          rw (w.places-is, w.n-is)
          (turn_one a.tokens.now a.scoped c.loop-p.invariant c.requires.complete.1 c.loop-p-test.true a.marks.now c.requires.has_marks _ c.marked_divisor.ensures w.in-Some.second w.in-Some.is)
      | in_default w ↦
          rw (w.places-is, w.n-is)
          (turn_none a.tokens.now a.scoped c.loop-p.invariant c.requires.complete.1 c.loop-p-test.true a.marks.now c.requires.has_marks _ c.marked_divisor.ensures w.in_default.is)
    ]

pub returns : goal.returns
returns c = let w = c.args.tokens.now in let scoped = c.args.scoped in let s = c.loop-p.invariant in list_ends w scoped s c.loop-p-test.false
