-- `rounds::measure::walk` meets its contract. Assumes nothing.
use Prim.Native.Nat.{◌-◌}
use native.Mathlib.Omega.{arith}
use Rattle.rounds.proofs.measure.Together.{gathering, fits, gathering_turns, gathering_ends}
use Rattle.rounds.proofs.measure.walk.Goals as goal

pub loop-init : goal.loop-init
loop-init c = (c.args.count, omega arith, gathering _ _ _ _ _ c.requires.inside.0 c.requires.inside.1)

pub overflow_mul-row : goal.overflow_mul-row
overflow_mul-row c = omega (arith, fits _ _ _ _ _ c.loop.invariant.2 (omega (arith, c.loop.invariant.1)), c.well_formed, c.requires.count_bound)

pub offset_bounds-facts-row : goal.offset_bounds-facts-row
offset_bounds-facts-row c = omega (arith, fits _ _ _ _ _ c.loop.invariant.2 (omega (arith, c.loop.invariant.1)), c.well_formed, c.requires.count_bound)

pub bounds-facts-row : goal.bounds-facts-row
bounds-facts-row c = omega (arith, fits _ _ _ _ _ c.loop.invariant.2 (omega (arith, c.loop.invariant.1)), c.well_formed, c.requires.count_bound)

pub offset_bounds-classes-p : goal.offset_bounds-classes-p
offset_bounds-classes-p c = omega (arith, fits _ _ _ _ _ c.loop.invariant.2 (omega (arith, c.loop.invariant.1)), c.well_formed, c.requires.count_bound)

pub bounds-classes-p : goal.bounds-classes-p
bounds-classes-p c = omega (arith, fits _ _ _ _ _ c.loop.invariant.2 (omega (arith, c.loop.invariant.1)), c.well_formed, c.requires.count_bound)

pub overflow_add-size : goal.overflow_add-size
overflow_add-size c = omega (arith, fits _ _ _ _ _ c.loop.invariant.2 (omega (arith, c.loop.invariant.1)), c.well_formed, c.requires.count_bound)

pub overflow_add-cost : goal.overflow_add-cost
overflow_add-cost c = omega (arith, fits _ _ _ _ _ c.loop.invariant.2 (omega (arith, c.loop.invariant.1)), c.well_formed, c.requires.count_bound)

pub offset_bounds-facts-row-in-loop : goal.offset_bounds-facts-row-in-loop
offset_bounds-facts-row-in-loop c = omega (arith, fits _ _ _ _ _ c.loop.invariant.2 (omega (arith, c.loop.invariant.1)), c.well_formed, c.requires.count_bound)

pub bounds-facts-row-in-loop : goal.bounds-facts-row-in-loop
bounds-facts-row-in-loop c = omega (arith, fits _ _ _ _ _ c.loop.invariant.2 (omega (arith, c.loop.invariant.1)), c.well_formed, c.requires.count_bound)

pub overflow_add-cost-in-loop : goal.overflow_add-cost-in-loop
overflow_add-cost-in-loop c = omega (arith, fits _ _ _ _ _ c.loop.invariant.2 (omega (arith, c.loop.invariant.1)), c.well_formed, c.requires.count_bound)

pub overflow_add-row : goal.overflow_add-row
overflow_add-row c = omega (arith, fits _ _ _ _ _ c.loop.invariant.2 (omega (arith, c.loop.invariant.1)), c.well_formed, c.requires.count_bound)

pub offset_bounds-facts-row-in-loop-2 : goal.offset_bounds-facts-row-in-loop-2
offset_bounds-facts-row-in-loop-2 c = omega (arith, fits _ _ _ _ _ c.loop.invariant.2 (omega (arith, c.loop.invariant.1)), c.well_formed, c.requires.count_bound)

pub bounds-facts-row-in-loop-2 : goal.bounds-facts-row-in-loop-2
bounds-facts-row-in-loop-2 c = omega (arith, fits _ _ _ _ _ c.loop.invariant.2 (omega (arith, c.loop.invariant.1)), c.well_formed, c.requires.count_bound)

pub overflow_add-row-in-loop : goal.overflow_add-row-in-loop
overflow_add-row-in-loop c = omega (arith, fits _ _ _ _ _ c.loop.invariant.2 (omega (arith, c.loop.invariant.1)), c.well_formed, c.requires.count_bound)

pub offset_bounds-facts-row-in-loop-3 : goal.offset_bounds-facts-row-in-loop-3
offset_bounds-facts-row-in-loop-3 c = omega (arith, fits _ _ _ _ _ c.loop.invariant.2 (omega (arith, c.loop.invariant.1)), c.well_formed, c.requires.count_bound)

pub bounds-facts-row-in-loop-3 : goal.bounds-facts-row-in-loop-3
bounds-facts-row-in-loop-3 c = omega (
  arith,
  fits _ _ _ _ _ c.loop.invariant.2
      (omega (arith, c.loop.invariant.1)),
  c.well_formed,
  c.requires.count_bound,
)

pub overflow_add-p : goal.overflow_add-p
overflow_add-p c = omega (
  arith,
  fits _ _ _ _ _ c.loop.invariant.2
      (omega (arith, c.loop.invariant.1)),
  c.well_formed,
  c.requires.count_bound,
)

pub loop-preserved : goal.loop-preserved
loop-preserved c = (
  c.loop.invariant.0 - 1,
  omega (arith, c.loop.invariant.1),
  gathering_turns _ _ _ _ _ c.loop.invariant.2 (omega (arith, c.loop.invariant.1)) c.mix-key.result
      c.max-depth.result c.max-symbol.result c.mix-key.ensures c.max-depth.ensures c.max-symbol.ensures,
)

pub returns : goal.returns
returns c = gathering_ends _ _ _ _ _ c.loop.invariant.2 (omega (arith, c.loop.invariant.1))
