use Rattle.std.proofs.Common.{take}
use Rattle.fmt.specs.emit.Writing.{Writes, low_bytes}
use Rattle.fmt.proofs.symbols.put_words.Given as goal

abbrev pub invariant-loop-w : goal.invariant-loop-w
invariant-loop-w l = Writes l.dry l.initial.out l.to (low_bytes (take l.w-index l.s)) l.out l.at
