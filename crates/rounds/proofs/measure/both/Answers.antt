-- `rounds::measure::both` meets its contract. Assumes nothing.
use native.Mathlib.Omega.{arith}
use Rattle.rounds.proofs.measure.Pairs.{pair, sizes_are, costs_are, pair_together}
use Rattle.rounds.proofs.measure.both.Goals as goal

pub overflow_mul-row : goal.overflow_mul-row
overflow_mul-row c = (let k = pair c.args.facts.now c.args.classes.now c.args.place c.requires.inside.0 c.requires.inside.1 in omega (arith, k.first_facts, k.within, k.second_facts, k.first_class, k.second_class, c.well_formed))

pub offset_bounds-facts-row : goal.offset_bounds-facts-row
offset_bounds-facts-row c = (let k = pair c.args.facts.now c.args.classes.now c.args.place c.requires.inside.0 c.requires.inside.1 in omega (arith, k.first_facts, k.within, k.second_facts, k.first_class, k.second_class, c.well_formed))

pub bounds-facts-row : goal.bounds-facts-row
bounds-facts-row c = (let k = pair c.args.facts.now c.args.classes.now c.args.place c.requires.inside.0 c.requires.inside.1 in omega (arith, k.first_facts, k.within, k.second_facts, k.first_class, k.second_class, c.well_formed))

pub overflow_add-second : goal.overflow_add-second
overflow_add-second c = (let k = pair c.args.facts.now c.args.classes.now c.args.place c.requires.inside.0 c.requires.inside.1 in omega (arith, k.first_facts, k.within, k.second_facts, k.first_class, k.second_class, c.well_formed))

pub overflow_mul-other : goal.overflow_mul-other
overflow_mul-other c = (let k = pair c.args.facts.now c.args.classes.now c.args.place c.requires.inside.0 c.requires.inside.1 in omega (arith, k.first_facts, k.within, k.second_facts, k.first_class, k.second_class, c.well_formed))

pub offset_bounds-classes-place : goal.offset_bounds-classes-place
offset_bounds-classes-place c = (let k = pair c.args.facts.now c.args.classes.now c.args.place c.requires.inside.0 c.requires.inside.1 in omega (arith, k.first_facts, k.within, k.second_facts, k.first_class, k.second_class, c.well_formed))

pub bounds-classes-place : goal.bounds-classes-place
bounds-classes-place c = (let k = pair c.args.facts.now c.args.classes.now c.args.place c.requires.inside.0 c.requires.inside.1 in omega (arith, k.first_facts, k.within, k.second_facts, k.first_class, k.second_class, c.well_formed))

pub offset_bounds-facts-other : goal.offset_bounds-facts-other
offset_bounds-facts-other c = (let k = pair c.args.facts.now c.args.classes.now c.args.place c.requires.inside.0 c.requires.inside.1 in omega (arith, k.first_facts, k.within, k.second_facts, k.first_class, k.second_class, c.well_formed))

pub bounds-facts-other : goal.bounds-facts-other
bounds-facts-other c = (let k = pair c.args.facts.now c.args.classes.now c.args.place c.requires.inside.0 c.requires.inside.1 in omega (arith, k.first_facts, k.within, k.second_facts, k.first_class, k.second_class, c.well_formed))

pub overflow_add-result : goal.overflow_add-result
overflow_add-result c = (omega (arith, sizes_are c.args.facts.now c.args.classes.now c.args.place, c.requires.place_bound))

pub overflow_add-result-2 : goal.overflow_add-result-2
overflow_add-result-2 c = (let k = pair c.args.facts.now c.args.classes.now c.args.place c.requires.inside.0 c.requires.inside.1 in omega (arith, k.first_facts, k.within, k.second_facts, k.first_class, k.second_class, c.well_formed))

pub offset_bounds-facts-row-2 : goal.offset_bounds-facts-row-2
offset_bounds-facts-row-2 c = (let k = pair c.args.facts.now c.args.classes.now c.args.place c.requires.inside.0 c.requires.inside.1 in omega (arith, k.first_facts, k.within, k.second_facts, k.first_class, k.second_class, c.well_formed))

pub bounds-facts-row-2 : goal.bounds-facts-row-2
bounds-facts-row-2 c = (let k = pair c.args.facts.now c.args.classes.now c.args.place c.requires.inside.0 c.requires.inside.1 in omega (arith, k.first_facts, k.within, k.second_facts, k.first_class, k.second_class, c.well_formed))

pub overflow_add-result-3 : goal.overflow_add-result-3
overflow_add-result-3 c = (let k = pair c.args.facts.now c.args.classes.now c.args.place c.requires.inside.0 c.requires.inside.1 in omega (arith, k.first_facts, k.within, k.second_facts, k.first_class, k.second_class, c.well_formed))

pub offset_bounds-facts-other-2 : goal.offset_bounds-facts-other-2
offset_bounds-facts-other-2 c = (let k = pair c.args.facts.now c.args.classes.now c.args.place c.requires.inside.0 c.requires.inside.1 in omega (arith, k.first_facts, k.within, k.second_facts, k.first_class, k.second_class, c.well_formed))

pub bounds-facts-other-2 : goal.bounds-facts-other-2
bounds-facts-other-2 c = (let k = pair c.args.facts.now c.args.classes.now c.args.place c.requires.inside.0 c.requires.inside.1 in omega (arith, k.first_facts, k.within, k.second_facts, k.first_class, k.second_class, c.well_formed))

pub overflow_add-result-4 : goal.overflow_add-result-4
overflow_add-result-4 c = (omega (arith, costs_are c.args.facts.now c.args.classes.now c.args.place, c.requires.place_bound))

pub overflow_add-row : goal.overflow_add-row
overflow_add-row c = (let k = pair c.args.facts.now c.args.classes.now c.args.place c.requires.inside.0 c.requires.inside.1 in omega (arith, k.first_facts, k.within, k.second_facts, k.first_class, k.second_class, c.well_formed))

pub offset_bounds-facts-row-3 : goal.offset_bounds-facts-row-3
offset_bounds-facts-row-3 c = (let k = pair c.args.facts.now c.args.classes.now c.args.place c.requires.inside.0 c.requires.inside.1 in omega (arith, k.first_facts, k.within, k.second_facts, k.first_class, k.second_class, c.well_formed))

pub bounds-facts-row-3 : goal.bounds-facts-row-3
bounds-facts-row-3 c = (let k = pair c.args.facts.now c.args.classes.now c.args.place c.requires.inside.0 c.requires.inside.1 in omega (arith, k.first_facts, k.within, k.second_facts, k.first_class, k.second_class, c.well_formed))

pub overflow_add-other : goal.overflow_add-other
overflow_add-other c = (let k = pair c.args.facts.now c.args.classes.now c.args.place c.requires.inside.0 c.requires.inside.1 in omega (arith, k.first_facts, k.within, k.second_facts, k.first_class, k.second_class, c.well_formed))

pub offset_bounds-facts-other-3 : goal.offset_bounds-facts-other-3
offset_bounds-facts-other-3 c = (let k = pair c.args.facts.now c.args.classes.now c.args.place c.requires.inside.0 c.requires.inside.1 in omega (arith, k.first_facts, k.within, k.second_facts, k.first_class, k.second_class, c.well_formed))

pub bounds-facts-other-3 : goal.bounds-facts-other-3
bounds-facts-other-3 c = (let k = pair c.args.facts.now c.args.classes.now c.args.place c.requires.inside.0 c.requires.inside.1 in omega (arith, k.first_facts, k.within, k.second_facts, k.first_class, k.second_class, c.well_formed))

pub overflow_add-row-2 : goal.overflow_add-row-2
overflow_add-row-2 c = (let k = pair c.args.facts.now c.args.classes.now c.args.place c.requires.inside.0 c.requires.inside.1 in omega (arith, k.first_facts, k.within, k.second_facts, k.first_class, k.second_class, c.well_formed))

pub offset_bounds-facts-row-4 : goal.offset_bounds-facts-row-4
offset_bounds-facts-row-4 c = (let k = pair c.args.facts.now c.args.classes.now c.args.place c.requires.inside.0 c.requires.inside.1 in omega (arith, k.first_facts, k.within, k.second_facts, k.first_class, k.second_class, c.well_formed))

pub bounds-facts-row-4 : goal.bounds-facts-row-4
bounds-facts-row-4 c = (let k = pair c.args.facts.now c.args.classes.now c.args.place c.requires.inside.0 c.requires.inside.1 in omega (arith, k.first_facts, k.within, k.second_facts, k.first_class, k.second_class, c.well_formed))

pub overflow_add-other-2 : goal.overflow_add-other-2
overflow_add-other-2 c = (let k = pair c.args.facts.now c.args.classes.now c.args.place c.requires.inside.0 c.requires.inside.1 in omega (arith, k.first_facts, k.within, k.second_facts, k.first_class, k.second_class, c.well_formed))

pub offset_bounds-facts-other-4 : goal.offset_bounds-facts-other-4
offset_bounds-facts-other-4 c = (let k = pair c.args.facts.now c.args.classes.now c.args.place c.requires.inside.0 c.requires.inside.1 in omega (arith, k.first_facts, k.within, k.second_facts, k.first_class, k.second_class, c.well_formed))

pub bounds-facts-other-4 : goal.bounds-facts-other-4
bounds-facts-other-4 c = (let k = pair c.args.facts.now c.args.classes.now c.args.place c.requires.inside.0 c.requires.inside.1 in omega (arith, k.first_facts, k.within, k.second_facts, k.first_class, k.second_class, c.well_formed))

pub offset_bounds-classes-second : goal.offset_bounds-classes-second
offset_bounds-classes-second c = (let k = pair c.args.facts.now c.args.classes.now c.args.place c.requires.inside.0 c.requires.inside.1 in omega (arith, k.first_facts, k.within, k.second_facts, k.first_class, k.second_class, c.well_formed))

pub bounds-classes-second : goal.bounds-classes-second
bounds-classes-second c = (let k = pair c.args.facts.now c.args.classes.now c.args.place c.requires.inside.0 c.requires.inside.1 in omega (arith, k.first_facts, k.within, k.second_facts, k.first_class, k.second_class, c.well_formed))

pub returns : goal.returns
returns c = (pair_together c.args.facts.now c.args.classes.now c.args.place c.args.w _ _ _ _ c.max.ensures c.max-2.ensures c.mix-key.ensures c.mix.ensures)
