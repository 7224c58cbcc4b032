-- `reciprocals::reciprocal::write_quotient` meets its contract: two words are written, and the divisor is copied after them. Assumes nothing.
use Rattle.reciprocals.proofs.reciprocal.Quotient.{one_begun, two_begun, part_fits, ended_long, quotient_written}
use Rattle.reciprocals.proofs.reciprocal.write_quotient.Goals as goal

pub bounds-work-1 : goal.bounds-work-1
bounds-work-1 c = one_begun c.args.base.now c.args.work.now c.args.place c.args.end c.requires.place_le_end.0 c.requires.place_le_end.1 c.requires.place_in_bounds _

pub slice_bounds-copy-count-2 : goal.slice_bounds-copy-count-2
slice_bounds-copy-count-2 c = two_begun c.args.base.now c.args.work.now c.args.place c.args.end c.requires.place_le_end.0 c.requires.place_le_end.1 c.requires.place_in_bounds _ _

pub slice_bounds-copy-start-2 : goal.slice_bounds-copy-start-2
slice_bounds-copy-start-2 c = two_begun c.args.base.now c.args.work.now c.args.place c.args.end c.requires.place_le_end.0 c.requires.place_le_end.1 c.requires.place_in_bounds _ _

pub copy-requires : goal.copy-requires
copy-requires c = part_fits c.args.base.now c.args.work.now c.args.place c.args.end c.requires.place_le_end.0 c.requires.place_le_end.1 c.requires.place_in_bounds _ _

pub shape_of-work : goal.shape_of-work
shape_of-work c = ended_long c.args.base.now c.args.work.now c.args.place c.args.end c.requires.place_le_end.0 c.requires.place_le_end.1 c.requires.place_in_bounds _ _ c.copy.new.out c.copy.auto.out

pub returns : goal.returns
returns c = quotient_written c.args.base.now c.args.work.now c.args.place c.args.end c.requires.place_le_end.0 c.requires.place_le_end.1 c.requires.place_in_bounds _ c.copy.ensures
