-- `load::recordlist::read_records` meets its contract. Assumes nothing.
use mathlib.Core.Path.{◌∙◌, ap, refl}
use native.Mathlib.Omega.{arith}
use Rattle.load.proofs.recordlist.Reading.{reading_begin, reading_next, reading_stops, reading_ends, ends_within}
use Rattle.load.specs.recordlist.Step.{told_step}
use Rattle.load.proofs.recordlist.read_records.Goals as goal

pub loop-at-init : goal.loop-at-init
loop-at-init c = (reading_begin c.args.sheet.now c.args.table.now c.args.list.now c.requires.0 c.requires.1, omega arith, refl, refl)

pub slice_bounds-read_one-count : goal.slice_bounds-read_one-count
slice_bounds-read_one-count c = omega (arith, ends_within c.args.sheet.now c.loop-at.at c.record_end-e.result c.record_end-e.ensures c.loop-at-test.true)

pub slice_bounds-read_one-start : goal.slice_bounds-read_one-start
slice_bounds-read_one-start c = omega (arith, ends_within c.args.sheet.now c.loop-at.at c.record_end-e.result c.record_end-e.ensures c.loop-at-test.true)

pub slice_bounds-read_one-end : goal.slice_bounds-read_one-end
slice_bounds-read_one-end c = omega (arith, ends_within c.args.sheet.now c.loop-at.at c.record_end-e.result c.record_end-e.ensures c.loop-at-test.true)

pub loop-at-smaller : goal.loop-at-smaller
loop-at-smaller c = omega (arith, ends_within c.args.sheet.now c.loop-at.at c.record_end-e.result c.record_end-e.ensures c.loop-at-test.true, c.loop-at-test.true)

pub loop-at-preserved : goal.loop-at-preserved
loop-at-preserved c = (reading_next c.args.sheet.now c.loop-at.at c.loop-at.records c.loop-at.so_far.rows c.loop-at.so_far.roots c.loop-at.table c.loop-at.list c.loop-at.invariant.0 c.loop-at-test.true c.record_end-e.result c.record_end-e.ensures _ _ _ _ (told_step c.read_one.result) (ap told_step c.in-Ok.is) c.read_one.ensures, omega (arith, ends_within c.args.sheet.now c.loop-at.at c.record_end-e.result c.record_end-e.ensures c.loop-at-test.true, c.requires.2), c.read_one.auto.table ∙ c.loop-at.invariant.2, c.read_one.auto.list ∙ c.loop-at.invariant.3)

pub returns-in-Err : goal.returns-in-Err
returns-in-Err c = reading_stops c.args.sheet.now c.loop-at.at c.loop-at.records c.loop-at.so_far.rows c.loop-at.so_far.roots c.loop-at.table c.loop-at.list c.loop-at.invariant.0 c.loop-at-test.true c.record_end-e.result c.record_end-e.ensures _ _ _ (told_step c.read_one.result) (ap told_step c.in-Err.is) c.read_one.ensures

pub returns : goal.returns
returns c = reading_ends c.args.sheet.now c.loop-at.at c.loop-at.records c.loop-at.so_far.rows c.loop-at.so_far.roots c.loop-at.table c.loop-at.list c.loop-at.invariant.0 c.loop-at-test.false
