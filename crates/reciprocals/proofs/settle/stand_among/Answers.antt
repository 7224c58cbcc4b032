-- `reciprocals::settle::stand_among` meets its contract: what is still to be looked through decides. Assumes nothing.
use native.Mathlib.Omega.{arith}
use mathlib.Core.Path.{refl, sym}
use Rattle.reciprocals.proofs.settle.Missing.{turn_found, turn_missed, too_few, all_missed}
use Rattle.reciprocals.proofs.settle.stand_among.Goals as goal

pub returns-then-words-n : goal.returns-then-words-n
returns-then-words-n c = sym (too_few c.args.divisor.now c.args.words.now c.if-words-n.true)

pub loop-i-init : goal.loop-i-init
loop-i-init c = refl

pub returns-then-eq : goal.returns-then-eq
returns-then-eq c = turn_found c.args.divisor.now c.args.words.now c.loop-i.i (omega (arith, c.requires)) c.loop-i.invariant _ c.eq.ensures c.if-eq.true

pub loop-i-preserved : goal.loop-i-preserved
loop-i-preserved c = turn_missed c.args.divisor.now c.args.words.now c.loop-i.i (omega (arith, c.requires)) c.loop-i.invariant _ c.eq.ensures c.if-eq.false

pub returns : goal.returns
returns c = all_missed c.args.divisor.now c.args.words.now c.loop-i.i c.requires (omega arith) c.loop-i.invariant
