use lib.ListN.{length}
use Prim.Native.Nat.{◌-◌}
use Rattle.cse_scoped.proofs.one_scope.+list_all.Given as goal

abbrev pub decreases-list_all : goal.decreases-list_all
decreases-list_all l = 65536 - length l.marks.now
