-- `statements::Scope::order_few` meets its contract. Assumes nothing.
use Prim.Native.Nat.{◌*◌}
use native.Mathlib.Omega.{arith}
use Rattle.reciprocals.proofs.final.Marking.{zeros_front}
use Rattle.statements.proofs.Scope.order_few.Goals as goal

pub order_within-requires-clause-bits_value : goal.order_within-requires-clause-bits_value
order_within-requires-clause-bits_value c = zeros_front (32 * c.args.count) 1024 (omega (arith, c.requires.tokens_len_bound.1))
