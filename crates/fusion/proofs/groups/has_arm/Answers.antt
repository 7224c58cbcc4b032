-- `fusion::groups::has_arm` meets its contract: a switch has its key, and then its arms. Assumes nothing.
use native.Mathlib.Omega.{arith}
use mathlib.Core.Path.{sym, ◌∙◌, subst}
use lib.Dec.{T}
use Rattle.fusion.proofs.groups.Standing.{stands_inside}
use Rattle.fusion.proofs.groups.Armed.{arm_of_switch, some_operand, no_switch_there}
use Rattle.fusion.proofs.groups.has_arm.Goals as goal

pub offset_bounds-tokens-place : goal.offset_bounds-tokens-place
offset_bounds-tokens-place c = omega (arith, stands_inside c.args.tokens.now c.args.place (subst T (sym c.if-stands.true ∙ c.stands.ensures) tt), c.well_formed)

pub bounds-tokens-place : goal.bounds-tokens-place
bounds-tokens-place c = stands_inside c.args.tokens.now c.args.place (subst T (sym c.if-stands.true ∙ c.stands.ensures) tt)

pub overflow_sub-result : goal.overflow_sub-result
overflow_sub-result c = omega (arith, c.operand_count.ensures, some_operand c.args.tokens.now c.args.arm c.args.place (sym c.if-stands.true ∙ c.stands.ensures))

pub returns-then-stands : goal.returns-then-stands
returns-then-stands c = arm_of_switch c.args.tokens.now c.args.arm c.args.place (sym c.if-stands.true ∙ c.stands.ensures) _ c.operand_count.ensures

pub returns-else-stands : goal.returns-else-stands
returns-else-stands c = no_switch_there c.args.tokens.now c.args.arm c.args.place _ c.stands.ensures c.if-stands.false
