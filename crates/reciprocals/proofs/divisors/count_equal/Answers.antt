-- `reciprocals::divisors::count_equal` meets its contract. Assumes nothing.
use native.Mathlib.Omega.{arith}
use mathlib.Core.Path.{sym, ◌∙◌}
use lib.ListN.{length}
use Rattle.reciprocals.proofs.divisors.Within.{inside_at}
use Rattle.reciprocals.proofs.divisors.Counting.{counting_starts, counts, passes, counting_ends}
use Rattle.reciprocals.proofs.divisors.count_equal.Goals as goal
use Rattle.reciprocals.proofs.divisors.count_equal.Goals.{then-equal_trees, else-equal_trees}

pub loop-place-init : goal.loop-place-init
loop-place-init c = let w = c.args.tokens.now in let l = c.args.list.now in let q = c.args.q in counting_starts w l q

pub equal_trees-requires : goal.equal_trees-requires
equal_trees-requires c = let w = c.args.tokens.now in
    let l = c.args.list.now in
    record { complete = c.requires.complete.0; i_in_bounds = (inside_at (length w) l c.loop-place.place-index c.requires.inside c.loop-place-test.true, c.requires.complete.1) }

pub overflow_add-count : goal.overflow_add-count
overflow_add-count c = let s = c.loop-place.invariant in omega (arith, s.few, c.loop-place-test.true, c.well_formed)

pub loop-place-preserved : goal.loop-place-preserved
loop-place-preserved c =
    let a = c.args in
    elim c.if-equal_trees.branch [
      | then-equal_trees w ↦ rw w.count-is (counts a.tokens.now a.list.now a.q c.loop-place.invariant c.loop-place-test.true (sym w.if-equal_trees.true ∙ c.equal_trees.ensures))
      | else-equal_trees w ↦ rw w.count-is (passes a.tokens.now a.list.now a.q c.loop-place.invariant c.loop-place-test.true (sym w.if-equal_trees.false ∙ c.equal_trees.ensures))
    ]

pub returns : goal.returns
returns c = let w = c.args.tokens.now in let l = c.args.list.now in let q = c.args.q in let s = c.loop-place.invariant in counting_ends w l q s c.loop-place-test.false
