-- `rounds::value_numbers::same_below` meets its contract. Assumes nothing.
use Prim.Native.Nat.{◌-◌}
use native.Mathlib.Omega.{arith}
use Rattle.rounds.proofs.value_numbers.Loops.{walk_first, comparing_starts, comparing_turns, comparing_stops, comparing_ends}
use Rattle.rounds.proofs.value_numbers.same_below.Goals as goal

pub loop-init : goal.loop-init
loop-init c = (c.args.count, omega arith, comparing_starts _ _ _ _ _ c.requires.walk c.requires.walk_2)

pub offset_bounds-classes-p : goal.offset_bounds-classes-p
offset_bounds-classes-p c = omega (arith, (walk_first _ _ _ _ c.loop.invariant.2.one (omega (arith, c.loop.invariant.1))).place, c.well_formed.1.0)

pub bounds-classes-p : goal.bounds-classes-p
bounds-classes-p c = omega (arith, (walk_first _ _ _ _ c.loop.invariant.2.one (omega (arith, c.loop.invariant.1))).place)

pub offset_bounds-classes-q : goal.offset_bounds-classes-q
offset_bounds-classes-q c = omega (arith, (walk_first _ _ _ _ c.loop.invariant.2.two (omega (arith, c.loop.invariant.1))).place, c.well_formed.1.0)

pub bounds-classes-q : goal.bounds-classes-q
bounds-classes-q c = omega (arith, (walk_first _ _ _ _ c.loop.invariant.2.two (omega (arith, c.loop.invariant.1))).place)

pub returns-then-classes-p : goal.returns-then-classes-p
returns-then-classes-p c = comparing_stops _ _ c.loop.invariant.2 (omega (arith, c.loop.invariant.1)) c.if-classes-p.true

pub overflow_mul-p : goal.overflow_mul-p
overflow_mul-p c = omega (arith, (walk_first _ _ _ _ c.loop.invariant.2.one (omega (arith, c.loop.invariant.1))).row, c.well_formed.0)

pub offset_bounds-facts-p : goal.offset_bounds-facts-p
offset_bounds-facts-p c = omega (arith, (walk_first _ _ _ _ c.loop.invariant.2.one (omega (arith, c.loop.invariant.1))).row, c.well_formed.0)

pub bounds-facts-p : goal.bounds-facts-p
bounds-facts-p c = omega (arith, (walk_first _ _ _ _ c.loop.invariant.2.one (omega (arith, c.loop.invariant.1))).row)

pub overflow_add-p : goal.overflow_add-p
overflow_add-p c = omega (arith, (walk_first _ _ _ _ c.loop.invariant.2.one (omega (arith, c.loop.invariant.1))).after, c.well_formed.1.0)

pub overflow_mul-q : goal.overflow_mul-q
overflow_mul-q c = omega (arith, (walk_first _ _ _ _ c.loop.invariant.2.two (omega (arith, c.loop.invariant.1))).row, c.well_formed.0)

pub offset_bounds-facts-q : goal.offset_bounds-facts-q
offset_bounds-facts-q c = omega (arith, (walk_first _ _ _ _ c.loop.invariant.2.two (omega (arith, c.loop.invariant.1))).row, c.well_formed.0)

pub bounds-facts-q : goal.bounds-facts-q
bounds-facts-q c = omega (arith, (walk_first _ _ _ _ c.loop.invariant.2.two (omega (arith, c.loop.invariant.1))).row)

pub overflow_add-q : goal.overflow_add-q
overflow_add-q c = omega (arith, (walk_first _ _ _ _ c.loop.invariant.2.two (omega (arith, c.loop.invariant.1))).after, c.well_formed.1.0)

pub loop-preserved : goal.loop-preserved
loop-preserved c = (c.loop.invariant.0 - 1, omega (arith, c.loop.invariant.1), comparing_turns _ _ c.loop.invariant.2 (omega (arith, c.loop.invariant.1)) c.if-classes-p.false)

pub returns : goal.returns
returns c = comparing_ends _ _ c.loop.invariant.2 (omega (arith, c.loop.invariant.1))
