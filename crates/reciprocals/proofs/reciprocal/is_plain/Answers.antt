-- `reciprocals::reciprocal::is_plain` meets its contract. Assumes nothing.
use native.Mathlib.Omega.{arith}
use Rattle.reciprocals.proofs.reciprocal.Binding.{not_plain, plain_by}
use Rattle.reciprocals.proofs.reciprocal.is_plain.Goals as goal

pub count_equal-requires : goal.count_equal-requires
count_equal-requires c = record { complete = (c.requires.complete.0, omega (arith, c.requires.place_lt_end)); inside = c.requires.complete.1 }

pub returns-then-no_division : goal.returns-then-no_division
returns-then-no_division c = plain_by c.args.base.now c.args.later.now c.args.place _ _ c.no_division.ensures c.if-no_division.true _ c.count_equal.ensures

pub returns-else-no_division : goal.returns-else-no_division
returns-else-no_division c = not_plain c.args.base.now c.args.later.now c.args.place _ _ c.no_division.ensures c.if-no_division.false
