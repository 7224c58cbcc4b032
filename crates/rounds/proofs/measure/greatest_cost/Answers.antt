-- `rounds::measure::greatest_cost` meets its contract. Assumes nothing.
use Prim.Native.Nat.{◌-◌}
use native.Mathlib.Omega.{arith}
use Rattle.rounds.proofs.measure.Walking.{seeking, seek_turn, seek_end}
use Rattle.rounds.proofs.measure.greatest_cost.Goals as goal

pub loop-init : goal.loop-init
loop-init c = (c.args.count, omega arith, seeking _ _ _ _ c.requires)

pub overflow_mul-row : goal.overflow_mul-row
overflow_mul-row c = omega (arith, (seek_turn _ _ _ _ c.loop.invariant.2 (omega (arith, c.loop.invariant.1))).here.room, c.well_formed.0)

pub overflow_add-row : goal.overflow_add-row
overflow_add-row c = omega (arith, (seek_turn _ _ _ _ c.loop.invariant.2 (omega (arith, c.loop.invariant.1))).here.room, c.well_formed.0)

pub offset_bounds-facts-row : goal.offset_bounds-facts-row
offset_bounds-facts-row c = omega (arith, (seek_turn _ _ _ _ c.loop.invariant.2 (omega (arith, c.loop.invariant.1))).here.room, c.well_formed.0)

pub bounds-facts-row : goal.bounds-facts-row
bounds-facts-row c = omega (arith, (seek_turn _ _ _ _ c.loop.invariant.2 (omega (arith, c.loop.invariant.1))).here.room, c.well_formed.0)

pub offset_bounds-facts-row-in-loop : goal.offset_bounds-facts-row-in-loop
offset_bounds-facts-row-in-loop c = omega (arith, (seek_turn _ _ _ _ c.loop.invariant.2 (omega (arith, c.loop.invariant.1))).here.room, c.well_formed.0)

pub bounds-facts-row-in-loop : goal.bounds-facts-row-in-loop
bounds-facts-row-in-loop c = omega (arith, (seek_turn _ _ _ _ c.loop.invariant.2 (omega (arith, c.loop.invariant.1))).here.room, c.well_formed.0)

pub overflow_add-p : goal.overflow_add-p
overflow_add-p c = omega (arith, (seek_turn _ _ _ _ c.loop.invariant.2 (omega (arith, c.loop.invariant.1))).here.within, c.well_formed.0)

pub loop-preserved : goal.loop-preserved
loop-preserved c = (c.loop.invariant.0 - 1, omega (arith, c.loop.invariant.1), rw c.max-most.ensures (seek_turn _ _ _ _ c.loop.invariant.2 (omega (arith, c.loop.invariant.1))).after)

pub returns : goal.returns
returns c = seek_end _ _ _ _ c.loop.invariant.2 (omega (arith, c.loop.invariant.1))
