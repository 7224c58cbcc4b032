-- `rounds::measure::operands_cost` meets its contract. Assumes nothing.
use native.Mathlib.Omega.{arith}
use mathlib.Core.Path.{◌∙◌}
use Rattle.rounds.proofs.measure.Walking.{costs_sum, costs_none, arms}
use Rattle.rounds.proofs.measure.operands_cost.Goals as goal

pub returns-then-kind-lt-SELECT : goal.returns-then-kind-lt-SELECT
returns-then-kind-lt-SELECT c = c.requires.1 ∙ costs_sum c.args.kind _ c.if-kind-lt-SELECT.true

pub returns-then-count-eq0 : goal.returns-then-count-eq0
returns-then-count-eq0 c = costs_none c.args.kind _ _ _ c.if-kind-lt-SELECT.false c.if-count-eq0.true

pub overflow_mul-row : goal.overflow_mul-row
overflow_mul-row c = omega (arith, (arms c.args.kind _ _ _ c.if-kind-lt-SELECT.false c.if-count-eq0.false c.requires.0).here.room, c.well_formed)

pub offset_bounds-facts-row : goal.offset_bounds-facts-row
offset_bounds-facts-row c = omega (arith, (arms c.args.kind _ _ _ c.if-kind-lt-SELECT.false c.if-count-eq0.false c.requires.0).here.room, c.well_formed)

pub bounds-facts-row : goal.bounds-facts-row
bounds-facts-row c = omega (arith, (arms c.args.kind _ _ _ c.if-kind-lt-SELECT.false c.if-count-eq0.false c.requires.0).here.room)

pub overflow_add-arms : goal.overflow_add-arms
overflow_add-arms c = omega (arith, (arms c.args.kind _ _ _ c.if-kind-lt-SELECT.false c.if-count-eq0.false c.requires.0).here.within, c.well_formed)

pub overflow_add-result : goal.overflow_add-result
overflow_add-result c = omega (arith, (arms c.args.kind _ _ _ c.if-kind-lt-SELECT.false c.if-count-eq0.false c.requires.0).here.room, c.well_formed)

pub offset_bounds-facts-row-2 : goal.offset_bounds-facts-row-2
offset_bounds-facts-row-2 c = omega (arith, (arms c.args.kind _ _ _ c.if-kind-lt-SELECT.false c.if-count-eq0.false c.requires.0).here.room, c.well_formed)

pub bounds-facts-row-2 : goal.bounds-facts-row-2
bounds-facts-row-2 c = omega (arith, (arms c.args.kind _ _ _ c.if-kind-lt-SELECT.false c.if-count-eq0.false c.requires.0).here.room)

pub greatest_cost-requires : goal.greatest_cost-requires
greatest_cost-requires c = (arms c.args.kind _ _ _ c.if-kind-lt-SELECT.false c.if-count-eq0.false c.requires.0).here.rest

pub overflow_add-result-2 : goal.overflow_add-result-2
overflow_add-result-2 c = omega (arith, (arms c.args.kind _ _ _ c.if-kind-lt-SELECT.false c.if-count-eq0.false c.requires.0).small, c.greatest_cost.ensures, c.requires.1, c.well_formed)

pub returns : goal.returns
returns c = rw c.greatest_cost.ensures (arms c.args.kind _ _ _ c.if-kind-lt-SELECT.false c.if-count-eq0.false c.requires.0).are
