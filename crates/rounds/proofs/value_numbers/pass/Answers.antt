-- `rounds::value_numbers::pass` meets its contract. Assumes nothing.
use native.Mathlib.Omega.{arith}
use mathlib.Core.Path.{refl}
use Rattle.rounds.proofs.measure.Filling.{filling_starts, filling_ready}
use Rattle.rounds.proofs.value_numbers.Chains.{passing_next}
use Rattle.rounds.proofs.value_numbers.Passes.{filling_sized, counts_next, pass_turns, pass_ends}
use Rattle.rounds.proofs.value_numbers.pass.Goals as goal

pub loop-i-init : goal.loop-i-init
loop-i-init c = ((record { filling = filling_starts _ _ c.requires.complete.1; passing = c.requires.passing; uses = c.requires.counted; count = omega arith }, refl, refl, refl, refl))

pub enter-requires : goal.enter-requires
enter-requires c = let k = c.loop-i.invariant.0 in
    let h = c.loop-i-test.true in
    record { complete = (c.requires.complete.0, omega (arith, k.passing.inside, h), omega (arith, k.filling.long, k.filling.room)); sized = (filling_sized k.filling _ (omega (arith, h)), filling_ready k.filling h c.requires.complete.0); passing = (passing_next k.passing h, counts_next k.uses h) }

pub loop-i-preserved : goal.loop-i-preserved
loop-i-preserved c = (
  pass_turns c.loop-i.invariant.0
      c.loop-i-test.true
      c.requires.complete.0
      c.enter.ensures,
  omega
      (arith, c.enter.auto, c.loop-i.invariant.1),
  omega
      (arith, c.enter.auto, c.loop-i.invariant.2),
  omega
      (arith, c.enter.auto, c.loop-i.invariant.3),
  omega
      (arith, c.enter.auto, c.loop-i.invariant.4),
)

pub returns : goal.returns
returns c = pass_ends c.loop-i.invariant.0 c.requires.complete.0 c.loop-i-test.false
