-- `reciprocals::divisors::count_sized` meets its contract. Assumes nothing.
use native.Mathlib.Omega.{arith}
use mathlib.Core.Path.{sym, ◌∙◌}
use lib.ListN.{length}
use Rattle.reciprocals.proofs.divisors.Within.{inside_at}
use Rattle.reciprocals.proofs.divisors.Sizes.{sized_at}
use Rattle.reciprocals.proofs.divisors.Counting.{counting_starts, counts, passes, counting_ends}
use Rattle.reciprocals.proofs.divisors.count_sized.Goals as goal
use Rattle.reciprocals.proofs.divisors.count_sized.Goals.{then-equal_sized, else-equal_sized}

pub loop-place-init : goal.loop-place-init
loop-place-init c = counting_starts c.args.tokens.now c.args.list.now c.args.q

pub equal_sized-requires : goal.equal_sized-requires
equal_sized-requires c = let w = c.args.tokens.now in
    let l = c.args.list.now in
    record { complete = c.requires.complete.0; i_in_bounds = (inside_at (length w) l c.loop-place.place-index c.requires.inside c.loop-place-test.true, c.requires.complete.1); size_there = (sized_at w c.args.sizes.now l c.loop-place.place-index c.requires.size_there.1 c.loop-place-test.true, c.requires.size_there.0) }

pub overflow_add-count : goal.overflow_add-count
overflow_add-count c = omega (arith, c.loop-place.invariant.few, c.loop-place-test.true, c.well_formed)

pub loop-place-preserved : goal.loop-place-preserved
loop-place-preserved c =
    let a = c.args in
    elim c.if-equal_sized.branch [
      | then-equal_sized w ↦ rw w.count-is (counts a.tokens.now a.list.now a.q c.loop-place.invariant c.loop-place-test.true (sym w.if-equal_sized.true ∙ c.equal_sized.ensures))
      | else-equal_sized w ↦ rw w.count-is (passes a.tokens.now a.list.now a.q c.loop-place.invariant c.loop-place-test.true (sym w.if-equal_sized.false ∙ c.equal_sized.ensures))
    ]

pub returns : goal.returns
returns c = counting_ends c.args.tokens.now c.args.list.now c.args.q c.loop-place.invariant c.loop-place-test.false
