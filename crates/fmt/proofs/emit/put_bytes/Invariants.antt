use Rattle.std.proofs.Common.{take}
use Rattle.fmt.specs.emit.Writing.{Writes}
use Rattle.fmt.proofs.emit.put_bytes.Given as goal

abbrev pub invariant-loop-b : goal.invariant-loop-b
invariant-loop-b l = Writes l.dry l.initial.out l.to (take l.b-index l.s) l.out l.at
