-- `statements::holding::room_for` meets its contract: the tests decide. Assumes nothing.
use native.Mathlib.Omega.{arith}
use Rattle.std.proofs.lemmas.Bool.Decides.{nat_tests}
use Rattle.statements.specs.holding.Holding.{room_to_hold}
use Rattle.statements.proofs.holding.room_for.Goals as goal

pub returns-then-places-le-NUMBERS : goal.returns-then-places-le-NUMBERS
unfolding room_to_hold
returns-then-places-le-NUMBERS c = grind (arith, nat_tests)

pub returns-else-places-le-NUMBERS : goal.returns-else-places-le-NUMBERS
unfolding room_to_hold
returns-else-places-le-NUMBERS c = grind (arith, nat_tests)
