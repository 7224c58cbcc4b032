-- `words::tokens::end_of` meets its contract. Assumes nothing.
use Rattle.std.proofs.Common.{arith}
use lib.ListN.{get_or}
use Rattle.spec_tree.proofs.TokenLaws.{takes_below}
use Rattle.words.proofs.tokens.Counting.{ending_starts, ending_stops, ending_next, ending_none, ending_ends}
use Rattle.words.proofs.tokens.end_of.Goals as goal

pub loop-i-init : goal.loop-i-init
loop-i-init c = (omega arith, λ h. omega (arith, h), λ h. ending_starts h)

pub overflow_add-left : goal.overflow_add-left
overflow_add-left c = let w = get_or c.args.tokens.now c.loop-i.i 0 in
    omega (arith, c.loop-i.invariant.1 c.loop-i-test.true, c.well_formed.0, c.operand_count.ensures, takes_below w, c.type_inv.tokens c.loop-i.i)

pub returns-then-left-eq0 : goal.returns-then-left-eq0
returns-then-left-eq0 c = let next = ending_next c.operand_count.result c.loop-i.invariant.2 c.loop-i.auto.i c.loop-i-test.true c.loop-i.invariant.0 c.operand_count.ensures in
    ending_ends next (omega (arith, c.if-left-eq0.true))

pub returns-then-left-tokens : goal.returns-then-left-tokens
returns-then-left-tokens c = let next = ending_next c.operand_count.result c.loop-i.invariant.2 c.loop-i.auto.i c.loop-i-test.true c.loop-i.invariant.0 c.operand_count.ensures in
    ending_stops next c.if-left-tokens.true

pub loop-i-preserved : goal.loop-i-preserved
loop-i-preserved c = let next = ending_next c.operand_count.result c.loop-i.invariant.2 c.loop-i.auto.i c.loop-i-test.true c.loop-i.invariant.0 c.operand_count.ensures in
    (omega (arith, c.if-left-eq0.false), λ h. c.if-left-tokens.false, λ h. next)

pub returns : goal.returns
returns c = ending_none c.loop-i.invariant.2 c.loop-i.invariant.0 c.loop-i-test.false
