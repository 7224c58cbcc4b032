-- `rounds::outside::count_outside` meets its contract. Assumes nothing.
use native.Mathlib.Omega.{arith}
use Rattle.rounds.proofs.value_numbers.Counts.{counted_starts}
use Rattle.rounds.proofs.outside.Tallying.{counted_outside, nothing_outside}
use Rattle.rounds.proofs.outside.count_outside.Goals as goal

pub tally-requires : goal.tally-requires
tally-requires c = record { complete = (c.requires.complete.0, c.requires.complete.1, omega (arith, c.requires.tokens_in_bounds.0, c.mark_outside_arms.ensures.long)); counted = counted_starts _ _ c.requires.tokens_in_bounds.1 c.reset.ensures }

pub returns-then-scoped : goal.returns-then-scoped
returns-then-scoped c = rw c.if-scoped.true (counted_outside _ _ _ _ _ c.mark_outside_arms.ensures c.tally.ensures)

pub returns-else-scoped : goal.returns-else-scoped
returns-else-scoped c = (nothing_outside _ c.args.scoped _ _ c.if-scoped.false c.requires.tokens_in_bounds.1)
