-- `rounds::outside::count_place` meets its contract. Assumes nothing.
use native.Mathlib.Omega.{arith}
use Rattle.rounds.proofs.outside.Tallying.{place_leaf, place_fits, place_turns}
use Rattle.rounds.proofs.value_numbers.Counts.{marked_flag}
use Rattle.rounds.proofs.outside.count_place.Goals as goal

pub returns-then-class-lt-OPERATION : goal.returns-then-class-lt-OPERATION
returns-then-class-lt-OPERATION c = (place_leaf c.args.marks.now c.requires.known.0 c.requires.known.2 c.requires.counted (omega (arith, c.if-class-lt-OPERATION.true)))

pub offset_bounds-outside-place : goal.offset_bounds-outside-place
offset_bounds-outside-place c = (let f = place_fits c.args.marks.now c.requires.known.0 c.requires.known.2 c.requires.counted (omega (arith, c.if-class-lt-OPERATION.false)) _ (marked_flag c.args.marks.now c.args.i _ c.from.ensures) in
    omega (arith, f.0, f.1, c.requires.counted.long, c.well_formed))

pub bounds-outside-place : goal.bounds-outside-place
bounds-outside-place c = (let f = place_fits c.args.marks.now c.requires.known.0 c.requires.known.2 c.requires.counted (omega (arith, c.if-class-lt-OPERATION.false)) _ (marked_flag c.args.marks.now c.args.i _ c.from.ensures) in
    omega (arith, f.0, f.1, c.requires.counted.long, c.well_formed))

pub overflow_add-outside : goal.overflow_add-outside
overflow_add-outside c = (let f = place_fits c.args.marks.now c.requires.known.0 c.requires.known.2 c.requires.counted (omega (arith, c.if-class-lt-OPERATION.false)) _ (marked_flag c.args.marks.now c.args.i _ c.from.ensures) in
    omega (arith, f.0, f.1, c.requires.counted.long, c.well_formed))

pub bounds-outside-place-2 : goal.bounds-outside-place-2
bounds-outside-place-2 c = (let f = place_fits c.args.marks.now c.requires.known.0 c.requires.known.2 c.requires.counted (omega (arith, c.if-class-lt-OPERATION.false)) _ (marked_flag c.args.marks.now c.args.i _ c.from.ensures) in
    omega (arith, f.0, f.1, c.requires.counted.long, c.well_formed))

pub returns : goal.returns
returns c = (place_turns c.args.marks.now c.requires.known.0 c.requires.known.2 c.requires.counted (omega (arith, c.if-class-lt-OPERATION.false)) _ (marked_flag c.args.marks.now c.args.i _ c.from.ensures))
