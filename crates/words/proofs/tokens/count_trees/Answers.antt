-- `words::tokens::count_trees` meets its contract. Assumes nothing.
use Rattle.std.proofs.Common.{arith, ◌-◌, ◌≡◌, ◌∷◌, [], ◌++◌, length}
use Rattle.std.proofs.lemmas.Iterator.Adapters.{YieldsList-from_rev_slice}
use Rattle.std.proofs.lemmas.Iterator.Consumers.{YieldsList-turn, YieldsList-end}
use Rattle.std.proofs.lemmas.List.{length_push, length-reverse}
use Rattle.words.proofs.tokens.Counting.{counting_starts, counting_turns, counting_stops, counting_ends, from_the_right}
use Rattle.words.proofs.tokens.count_trees.Goals as goal

pub loop-w-init : goal.loop-w-init
loop-w-init c = let n : length c.args.tokens.now - 0 ≡ length c.args.tokens.now = omega arith in rw n (counting_starts c.args.tokens.now)

pub returns-then-operands-count : goal.returns-then-operands-count
returns-then-operands-count c =
    let ws = c.args.tokens.now in
    let t = from_the_right ws _ _ (YieldsList-turn (YieldsList-from_rev_slice ws cc) c.loop-w.yielded _ c.loop-w.yielded_by _ _ c.in-Some.w c.in-Some.is c.next.ensures.steps) in
    let few = rw t.1 at c.operand_count-operands.ensures in
    counting_stops c.loop-w.invariant (omega (arith, t.0)) (omega (arith, c.if-operands-count.true, few))

pub overflow_add-count : goal.overflow_add-count
overflow_add-count c = omega (arith, c.loop-w.invariant, c.well_formed.0)

pub loop-w-preserved : goal.loop-w-preserved
loop-w-preserved c =
    let ws = c.args.tokens.now in
    let t = from_the_right ws _ _ (YieldsList-turn (YieldsList-from_rev_slice ws cc) c.loop-w.yielded _ c.loop-w.yielded_by _ _ c.in-Some.w c.in-Some.is c.next.ensures.steps) in
    let few = rw t.1 at c.operand_count-operands.ensures in
    let n = length_push c.loop-w.yielded c.in-Some.w in
    let k : length ws - length (c.loop-w.yielded ++ c.in-Some.w ∷ []) ≡ length ws - length c.loop-w.yielded - 1 = omega (arith, n) in
    rw (k, few) (counting_turns c.loop-w.invariant (omega (arith, t.0)) (omega (arith, c.if-operands-count.false, few)))

pub returns : goal.returns
returns c =
    let t = YieldsList-end (YieldsList-from_rev_slice c.args.tokens.now cc) c.loop-w.yielded _ c.loop-w.yielded_by _ _ c.in-None.is c.next.ensures.steps in
    counting_ends c.loop-w.invariant (omega (arith, t.1, length-reverse c.args.tokens.now))
