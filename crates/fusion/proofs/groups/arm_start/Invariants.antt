use mathlib.Core.Path.{◌≡◌}
use Rattle.laws.specs.switches.Switches.{arm_place}
use Rattle.fusion.proofs.groups.arm_start.Given as goal

abbrev pub invariant-loop : goal.invariant-loop
invariant-loop l = l.at ≡ arm_place l.tokens l.place l.counter
