-- `reciprocals::divisors::gather` meets its contract. Assumes nothing.
use native.Mathlib.Omega.{arith}
use Rattle.reciprocals.proofs.divisors.Giving.{listed_all, front_long, first_few, first_inside, second_inside, both_sized, gathered, listed_room}
use Rattle.reciprocals.proofs.divisors.gather.Goals as goal

pub slice_bounds-put_sizes-end : goal.slice_bounds-put_sizes-end
slice_bounds-put_sizes-end c = let x = listed_all c.args.tokens.now _ _ _ c.list-n.ensures in listed_room x

pub slice_bounds-put_sizes-end-2 : goal.slice_bounds-put_sizes-end-2
slice_bounds-put_sizes-end-2 c = let x = listed_all c.args.tokens.now _ _ _ c.list-n.ensures in front_long x

pub put_sizes-requires : goal.put_sizes-requires
put_sizes-requires c = let w = c.args.tokens.now in
    let x = listed_all w _ _ _ c.list-n.ensures in
    record { complete = (c.requires.complete.0, first_inside w c.args.scoped c.requires.complete.0 x c.list_outside-m.ensures); tokens_in_bounds = omega (arith, c.requires.tokens_in_bounds, c.list_outside-m.auto) }

pub slice_bounds-put_sizes-end-3 : goal.slice_bounds-put_sizes-end-3
slice_bounds-put_sizes-end-3 c = listed_room c.list_outside-m.ensures

pub slice_bounds-put_sizes-end-4 : goal.slice_bounds-put_sizes-end-4
slice_bounds-put_sizes-end-4 c = front_long c.list_outside-m.ensures

pub put_sizes-requires-2 : goal.put_sizes-requires-2
put_sizes-requires-2 c = let w = c.args.tokens.now in
    let x = listed_all w _ _ _ c.list-n.ensures in
    record { complete = (c.requires.complete.0, second_inside w c.args.scoped c.requires.complete.0 x c.list_outside-m.ensures); tokens_in_bounds = omega (arith, c.requires.tokens_in_bounds, c.list_outside-m.auto, c.put_sizes.auto) }

pub slice_bounds-choose-end : goal.slice_bounds-choose-end
slice_bounds-choose-end c = let x = listed_all c.args.tokens.now _ _ _ c.list-n.ensures in listed_room x

pub slice_bounds-choose-end-2 : goal.slice_bounds-choose-end-2
slice_bounds-choose-end-2 c = let x = listed_all c.args.tokens.now _ _ _ c.list-n.ensures in front_long x

pub slice_bounds-choose-end-3 : goal.slice_bounds-choose-end-3
slice_bounds-choose-end-3 c = listed_room c.list_outside-m.ensures

pub slice_bounds-choose-end-4 : goal.slice_bounds-choose-end-4
slice_bounds-choose-end-4 c = front_long c.list_outside-m.ensures

pub choose-requires : goal.choose-requires
choose-requires c = let w = c.args.tokens.now in
    let x = listed_all w _ _ _ c.list-n.ensures in
    let k = c.args.scoped in
    record { complete = (c.requires.complete.0, omega (arith, first_few w k c.requires.complete.0 x c.list_outside-m.ensures, front_long x, c.requires.complete.1)); inside = (first_inside w k c.requires.complete.0 x c.list_outside-m.ensures, second_inside w k c.requires.complete.0 x c.list_outside-m.ensures); sized = both_sized w k c.requires.complete.0 x c.list_outside-m.ensures _ _ _ (omega (arith, c.requires.tokens_in_bounds, c.list_outside-m.auto)) c.put_sizes.ensures c.put_sizes-2.ensures }

pub returns : goal.returns
returns c = let w = c.args.tokens.now in let x = listed_all w _ _ _ c.list-n.ensures in gathered w c.args.scoped c.requires.complete.0 x c.list_outside-m.ensures c.choose.ensures
