-- The proof of the cycle {child, expression}. Each measure is twice the size of the tree, one more for `child`. Assumes nothing.
use mathlib.Core.Path.{◌∙◌}
use mathlib.Core.Bool.{true, false}
use native.Mathlib.Omega.{arith}
use Rattle.fmt.proofs.emit.WriteLaws.{writes_length}
use Rattle.fmt.proofs.shapes.NodeLaws.{stands_inside, child_test, symbol_done, constant_done, plain_done, bracket_done}
use Rattle.fmt.proofs.shapes.LoopLaws.{begin, stands, smaller, turn, finish}
use Rattle.fmt.proofs.writer.+child_expression.Goals as goal

pub child-offset_bounds-tokens-at : goal.child-offset_bounds-tokens-at
child-offset_bounds-tokens-at t c = omega (arith, stands_inside c.requires, c.well_formed.1.0)

pub child-bounds-tokens-at : goal.child-bounds-tokens-at
child-bounds-tokens-at t c = stands_inside c.requires

pub child-expression-inner-requires : goal.child-expression-inner-requires
child-expression-inner-requires t c = (omega (arith, c.decreases), c.requires)

pub child-returns-then-in_brackets : goal.child-returns-then-in_brackets
child-returns-then-in_brackets t c = bracket_done (child_test c.requires c.args.parent c.args.index c.precedence-p.result c.in_brackets.result true c.in_brackets.ensures c.precedence-p.ensures c.if-in_brackets.true) c.put-open.ensures c.expression-inner.ensures c.put-e.ensures

pub child-expression-requires : goal.child-expression-requires
child-expression-requires t c = (omega (arith, c.decreases), c.requires)

pub child-returns : goal.child-returns
child-returns t c = plain_done (child_test c.requires c.args.parent c.args.index c.precedence-p.result c.in_brackets.result false c.in_brackets.ensures c.precedence-p.ensures c.if-in_brackets.false) c.expression.ensures

pub expression-offset_bounds-tokens-at : goal.expression-offset_bounds-tokens-at
expression-offset_bounds-tokens-at t c = omega (arith, stands_inside c.requires, c.well_formed.1.0)

pub expression-bounds-tokens-at : goal.expression-bounds-tokens-at
expression-bounds-tokens-at t c = stands_inside c.requires

pub expression-overflow_add-next : goal.expression-overflow_add-next
expression-overflow_add-next t c = omega (arith, stands_inside c.requires, c.well_formed.1.0)

pub expression-returns-then-kind-eq-SYM : goal.expression-returns-then-kind-eq-SYM
expression-returns-then-kind-eq-SYM t c = symbol_done c.requires c.if-kind-eq-SYM.true c.put_name-e.ensures

pub expression-returns-then-kind-eq-CONST : goal.expression-returns-then-kind-eq-CONST
expression-returns-then-kind-eq-CONST t c = constant_done c.requires c.if-kind-eq-CONST.true c.put_integer-e.ensures

pub expression-loop-i-init : goal.expression-loop-i-init
expression-loop-i-init t c = begin c.requires c.if-kind-eq-SYM.false c.if-kind-eq-CONST.false c.put_opening-end.ensures

pub expression-child-p-requires : goal.expression-child-p-requires
expression-child-p-requires t c = (omega (arith, smaller c.requires c.if-kind-eq-SYM.false c.if-kind-eq-CONST.false c.loop-i.invariant c.loop-i-test.true, c.decreases), stands c.requires c.if-kind-eq-SYM.false c.if-kind-eq-CONST.false c.loop-i.invariant c.loop-i-test.true)

pub expression-loop-i-preserved : goal.expression-loop-i-preserved
expression-loop-i-preserved t c = turn c.requires c.if-kind-eq-SYM.false c.if-kind-eq-CONST.false c.loop-i.invariant c.loop-i-test.true c.put_between-start.ensures c.child-p.ensures

pub expression-shape_of-out : goal.expression-shape_of-out
expression-shape_of-out t c = c.put_closing-e.auto.out ∙ (writes_length c.loop-i.invariant.written ∙ c.put_opening-end.auto.out)

pub expression-returns : goal.expression-returns
expression-returns t c = finish c.requires c.if-kind-eq-SYM.false c.if-kind-eq-CONST.false c.put_opening-end.ensures c.loop-i.invariant c.loop-i-test.false c.put_closing-e.ensures
