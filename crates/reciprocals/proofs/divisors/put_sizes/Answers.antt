-- `reciprocals::divisors::put_sizes` meets its contract: what is still to be put decides. Assumes nothing.
use native.Mathlib.Omega.{arith}
use mathlib.Core.Path.{refl}
use lib.ListN.{length, get_or}
use Rattle.reciprocals.proofs.divisors.Within.{inside_at}
use Rattle.reciprocals.proofs.divisors.Sizes.{putting_turns, putting_ends, stands_there, end_is, end_within}
use Rattle.reciprocals.proofs.divisors.put_sizes.Goals as goal

pub loop-place-init : goal.loop-place-init
loop-place-init c = (refl, refl)

pub tree_end-end-requires : goal.tree_end-end-requires
tree_end-end-requires c = let w = c.args.tokens.now in let l = c.args.list.now in stands_there w c.requires.complete.0 (get_or l c.loop-place.place-index 0) (inside_at (length w) l c.loop-place.place-index c.requires.complete.1 c.loop-place-test.true)

pub overflow_sub-sizes : goal.overflow_sub-sizes
overflow_sub-sizes c = let w = c.args.tokens.now in let l = c.args.list.now in (end_within w c.requires.complete.0 (get_or l c.loop-place.place-index 0) (inside_at (length w) l c.loop-place.place-index c.requires.complete.1 c.loop-place-test.true) _ c.tree_end-end.ensures).0

pub offset_bounds-sizes-q : goal.offset_bounds-sizes-q
offset_bounds-sizes-q c = let w = c.args.tokens.now in let l = c.args.list.now in omega (arith, inside_at (length w) l c.loop-place.place-index c.requires.complete.1 c.loop-place-test.true, c.requires.tokens_in_bounds, c.loop-place.invariant.1, c.well_formed)

pub bounds-sizes-q : goal.bounds-sizes-q
bounds-sizes-q c = let w = c.args.tokens.now in let l = c.args.list.now in omega (arith, inside_at (length w) l c.loop-place.place-index c.requires.complete.1 c.loop-place-test.true, c.requires.tokens_in_bounds, c.loop-place.invariant.1)

pub loop-place-preserved : goal.loop-place-preserved
loop-place-preserved c = let w = c.args.tokens.now in let l = c.args.list.now in
    putting_turns w l c.args.sizes.now _ c.loop-place.place-index c.loop-place-test.true c.loop-place.invariant _
    (omega (arith, end_is w c.requires.complete.0 (get_or l c.loop-place.place-index 0) (inside_at (length w) l c.loop-place.place-index c.requires.complete.1 c.loop-place-test.true) _ c.tree_end-end.ensures))

pub returns : goal.returns
returns c = putting_ends c.args.tokens.now c.args.list.now c.args.sizes.now _ c.loop-place.place-index c.loop-place-test.false c.loop-place.invariant
