use mathlib.Core.Path.{◌≡◌}
use lib.ListN.{drop}
use Rattle.spec_sheet.specs.Sheet.{words, find}
use Rattle.load.proofs.recordwords.record_word.Given as goal

abbrev pub invariant-loop-k : goal.invariant-loop-k
invariant-loop-k l = (find 0 l.s words ≡ find l.k l.s (drop l.k words))
