use Rattle.std.proofs.Common.{◌≡◌, ◌-◌, ◌+◌, ◌<◌}
-- `replace::factors::flatten_tree` and `replace::factors::flatten_each` meet their contracts. A tree calls with the place after its word, and its operands call with a place no earlier. Assumes nothing.
use Rattle.std.proofs.Common.{◌+◌, ◌-◌, ◌<◌, arith}
use Rattle.replace.proofs.coefficient.Exactness.{one_literal}
use Rattle.replace.proofs.factors.WordRuns.{node_of}
use Rattle.replace.proofs.factors.Flattening.{kind_plain, operands_stand, operands_long, product_done, minus_done, none_done, first_room, loop_starts, next_stands, next_room, loop_turns, loop_ends}
use Rattle.replace.proofs.factors.+flatten_each_flatten_tree.Goals as goal

pub flatten_each-loop-preserved : goal.flatten_each-loop-preserved
flatten_each-loop-preserved t c = λ old h. let f = c.flatten_tree-p.ensures in
    let n = loop_turns (c.loop.invariant old h) (omega (arith, c.loop-test.true)) f.0 f.1 in
    let e : c.args.count - c.loop.counter - 1 ≡ c.args.count - (c.loop.counter + 1) = omega arith in
    rw (← e) n

pub flatten_each-returns-then-count-eq0 : goal.flatten_each-returns-then-count-eq0
flatten_each-returns-then-count-eq0 t c = none_done c.args.tokens.now c.args.at c.args.count c.args.places.now c.args.used c.if-count-eq0.true _ one_literal

pub flatten_each-flatten_tree-first-requires : goal.flatten_each-flatten_tree-first-requires
flatten_each-flatten_tree-first-requires t c = let r = first_room c.args.tokens.now c.args.at c.args.count c.args.places.now c.args.used c.if-count-eq0.false c.requires.stands c.requires.count_in_bounds in
    (omega (arith, c.decreases), r)

pub flatten_each-overflow_add-used : goal.flatten_each-overflow_add-used
flatten_each-overflow_add-used t c = omega (arith, (c.loop.invariant c.args.places.now (loop_starts c.args.tokens.now c.args.at c.args.count c.args.places.now c.args.used c.if-count-eq0.false c.requires.stands c.requires.count_in_bounds c.flatten_tree-first.ensures.0 c.flatten_tree-first.ensures.1)).room, c.well_formed.1.1.1.0)

pub flatten_each-flatten_tree-p-requires : goal.flatten_each-flatten_tree-p-requires
flatten_each-flatten_tree-p-requires t c = let h = (c.loop.invariant c.args.places.now (loop_starts c.args.tokens.now c.args.at c.args.count c.args.places.now c.args.used c.if-count-eq0.false c.requires.stands c.requires.count_in_bounds c.flatten_tree-first.ensures.0 c.flatten_tree-first.ensures.1)) in
    let more : 0 < c.args.count - c.loop.counter = omega (arith, c.loop-test.true) in
    (omega (arith, c.decreases, h.from), (next_stands h more, next_room h more))

pub flatten_each-overflow_add-found : goal.flatten_each-overflow_add-found
flatten_each-overflow_add-found t c = let f = c.flatten_tree-p.ensures in
    omega (arith, (loop_turns (c.loop.invariant c.args.places.now (loop_starts c.args.tokens.now c.args.at c.args.count c.args.places.now c.args.used c.if-count-eq0.false c.requires.stands c.requires.count_in_bounds c.flatten_tree-first.ensures.0 c.flatten_tree-first.ensures.1)) (omega (arith, c.loop-test.true)) f.0 f.1).room, c.well_formed.1.1.1.0)

pub flatten_each-returns : goal.flatten_each-returns
flatten_each-returns t c = loop_ends (c.loop.invariant c.args.places.now (loop_starts c.args.tokens.now c.args.at c.args.count c.args.places.now c.args.used c.if-count-eq0.false c.requires.stands c.requires.count_in_bounds c.flatten_tree-first.ensures.0 c.flatten_tree-first.ensures.1)) (omega (arith, c.loop-test.false))

pub flatten_tree-offset_bounds-tokens-at : goal.flatten_tree-offset_bounds-tokens-at
flatten_tree-offset_bounds-tokens-at t c = omega (arith, (node_of c.requires.stands).inside, c.well_formed.0)

pub flatten_tree-bounds-tokens-at : goal.flatten_tree-bounds-tokens-at
flatten_tree-bounds-tokens-at t c = (node_of c.requires.stands).inside

pub flatten_tree-flatten_each-requires : goal.flatten_tree-flatten_each-requires
flatten_tree-flatten_each-requires t c = (omega (arith, c.decreases, (node_of c.requires.stands).inside), (operands_stand c.requires.stands c.operand_count-operands.result c.operand_count-operands.ensures, omega (arith, operands_long c.requires.stands c.operand_count-operands.result c.operand_count-operands.ensures, c.requires.at_in_bounds)))

pub flatten_tree-returns-then-w-eq-MUL : goal.flatten_tree-returns-then-w-eq-MUL
flatten_tree-returns-then-w-eq-MUL t c = product_done c.requires.stands c.operand_count-operands.result c.operand_count-operands.ensures c.if-w-eq-MUL.true c.flatten_each.ensures

pub flatten_tree-flatten_each-p-requires : goal.flatten_tree-flatten_each-p-requires
flatten_tree-flatten_each-p-requires t c = (omega (arith, c.decreases, (node_of c.requires.stands).inside), (operands_stand c.requires.stands c.operand_count-operands.result c.operand_count-operands.ensures, omega (arith, operands_long c.requires.stands c.operand_count-operands.result c.operand_count-operands.ensures, c.requires.at_in_bounds)))

pub flatten_tree-returns-then-w-eq-NEG : goal.flatten_tree-returns-then-w-eq-NEG
flatten_tree-returns-then-w-eq-NEG t c = minus_done c.requires.stands c.operand_count-operands.result c.operand_count-operands.ensures c.if-w-eq-NEG.true c.flatten_each-p.ensures

pub flatten_tree-flatten_other-requires : goal.flatten_tree-flatten_other-requires
flatten_tree-flatten_other-requires t c = record { stands = c.requires.stands; at_in_bounds = c.requires.at_in_bounds; at_value = kind_plain c.requires.stands c.if-w-eq-MUL.false c.if-w-eq-NEG.false }
