-- `reciprocals::reciprocal::reciprocal` meets its contract: `1 / d` is written, and stays as it is or is settled. Assumes nothing.
use native.Mathlib.Omega.{arith}
use lib.ListN.{get_or}
use Rattle.reciprocals.proofs.settle.Stepping.{divisor_there}
use Rattle.reciprocals.proofs.reciprocal.There.{tested_there, there_at}
use Rattle.reciprocals.proofs.reciprocal.Binding.{plain_rest, before_end, rest_inside, bound_plain, bound_so}
use Rattle.reciprocals.proofs.reciprocal.reciprocal.Goals as goal

pub tree_end-end-requires : goal.tree_end-end-requires
tree_end-end-requires c = there_at c.args.base.now c.args.places.now c.args.j c.requires.complete.2 (tested_there c.args.base.now c.args.places.now c.requires.complete.1)

pub write_quotient-requires : goal.write_quotient-requires
write_quotient-requires c = let d = divisor_there c.args.base.now (get_or c.args.places.now c.args.j 0) _ c.tree_end-end.ensures in
    record { place_le_end = (d.after, d.within); place_in_bounds = omega (arith, d.after, d.within, c.requires.base_len_bound.1) }

pub overflow_sub-n : goal.overflow_sub-n
overflow_sub-n c = let d = divisor_there c.args.base.now (get_or c.args.places.now c.args.j 0) _ c.tree_end-end.ensures in d.after

pub overflow_add-n : goal.overflow_add-n
overflow_add-n c = let d = divisor_there c.args.base.now (get_or c.args.places.now c.args.j 0) _ c.tree_end-end.ensures in
    omega (arith, d.after, d.within, c.requires.base_len_bound.0)

pub is_plain-requires : goal.is_plain-requires
is_plain-requires c = let w = c.args.base.now in
    let l = c.args.places.now in
    let d = divisor_there w (get_or l c.args.j 0) _ c.tree_end-end.ensures in
    record { complete = (c.requires.complete.0, rest_inside w l c.args.j (tested_there w l c.requires.complete.1)); place_lt_end = (before_end w (get_or l c.args.j 0) _ d, d.within) }

pub returns-then-is_plain : goal.returns-then-is_plain
returns-then-is_plain c = let w = c.args.base.now in let l = c.args.places.now in let d = divisor_there w (get_or l c.args.j 0) _ c.tree_end-end.ensures in
    bound_plain w l c.args.first c.args.j c.requires.complete.2 (tested_there w l c.requires.complete.1) c.requires.base_len_bound.0 c.args.out.now _ c.requires.base_len_bound.1 _ d c.write_quotient.ensures
    (plain_rest w l c.args.j (get_or l c.args.j 0) _ _ c.is_plain.ensures c.if-is_plain.true)

pub returns : goal.returns
returns c = let w = c.args.base.now in let l = c.args.places.now in let d = divisor_there w (get_or l c.args.j 0) _ c.tree_end-end.ensures in
    bound_so w l c.args.first c.args.j c.requires.complete.2 (tested_there w l c.requires.complete.1) c.requires.base_len_bound.0 c.args.out.now _ c.requires.base_len_bound.1 _ d c.write_quotient.ensures
    c.requires.first_bound.0 c.requires.first_bound.1 c.settle.result _ _ c.settle.ensures.0 c.settle.ensures.1 c.unwrap_or.ensures
