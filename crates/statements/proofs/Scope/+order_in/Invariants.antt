use Prim.Native.Nat.{◌-◌, ◌*◌}
use lib.ListN.{length}
use Rattle.statements.proofs.Scope.+order_in.Given as goal

abbrev pub decreases-order_in : goal.decreases-order_in
decreases-order_in l = 32 * l.count - length l.bits.now
