use mathlib.Core.Path.{◌≡◌}
use Rattle.fusion.specs.Words.{numbers_from}
use Rattle.fusion.specs.place.Overlay.{overlay}
use Rattle.cse_scoped.proofs.one_scope.number_members.Given as goal

abbrev pub invariant-loop-i : goal.invariant-loop-i
invariant-loop-i l = l.numbers ≡ overlay l.at (numbers_from l.first l.i) l.initial.numbers
