-- `rounds::choice::Places::savings_of` meets its contract. Assumes nothing.
use Prim.Native.Nat.{◌+◌, ◌-◌, ◌*◌, ◌/◌}
use native.Mathlib.Omega.{arith}
use mathlib.Core.Path.{◌∙◌}
use lib.ListN.{get_or}
use Rattle.rounds.proofs.choice.Leaders.{no_cost, no_symbol, no_uses, no_outside, few_outside, some_outside, outside_count, saved, uses_few, cost_few, small_product}
use Rattle.rounds.proofs.value_numbers.Sides.{costs_operation}
use Rattle.rounds.proofs.choice.Places.savings_of.Goals as goal
use Rattle.rounds.proofs.choice.Places.savings_of.Goals.{then-count-lt2-via-then-count-lt2, then-count-lt2-via-else-count-lt2+then-self-row-lt1, then-count-lt2-via-else-count-lt2+else-self-row-lt1+then-outside_uses-lt1}

pub returns-then-cost-lt1 : goal.returns-then-cost-lt1
returns-then-cost-lt1 c = (no_cost c.args.self.now.tokens.now c.args.self.now.scoped c.args.i _ (c.requires.worked_out.facts.cost_at c.args.i c.requires.i_in_bounds) c.if-cost-lt1.true)

pub offset_bounds-self-place : goal.offset_bounds-self-place
offset_bounds-self-place c = (let a = c.args in let w = a.self.now.tokens.now in let i = a.i in let op = costs_operation w i c.requires.i_in_bounds (omega (arith, c.requires.worked_out.facts.cost_at i c.requires.i_in_bounds, c.if-cost-lt1.false)) in
    omega (arith, c.requires.worked_out.uses.within i c.requires.i_in_bounds op, c.requires.worked_out.uses.long, c.requires.worked_out.uses.long_classes, c.well_formed))

pub bounds-self-place : goal.bounds-self-place
bounds-self-place c = (let a = c.args in let w = a.self.now.tokens.now in let i = a.i in let op = costs_operation w i c.requires.i_in_bounds (omega (arith, c.requires.worked_out.facts.cost_at i c.requires.i_in_bounds, c.if-cost-lt1.false)) in
    omega (arith, c.requires.worked_out.uses.within i c.requires.i_in_bounds op, c.requires.worked_out.uses.long, c.requires.worked_out.uses.long_classes, c.well_formed))

pub outside_uses-requires : goal.outside_uses-requires
outside_uses-requires c = (let a = c.args in let w = a.self.now.tokens.now in let i = a.i in let op = costs_operation w i c.requires.i_in_bounds (omega (arith, c.requires.worked_out.facts.cost_at i c.requires.i_in_bounds, c.if-cost-lt1.false)) in
    omega (arith, c.requires.worked_out.uses.within i c.requires.i_in_bounds op, c.requires.worked_out.outside.long))

pub returns-then-count-lt2 : goal.returns-then-count-lt2
returns-then-count-lt2 c =
    let a = c.args in
    let w = a.self.now.tokens.now in
    let i = a.i in
    let op = costs_operation w i c.requires.i_in_bounds (omega (arith, c.requires.worked_out.facts.cost_at i c.requires.i_in_bounds, c.if-cost-lt1.false)) in
    elim c.then-count-lt2.branch [
      | then-count-lt2-via-then-count-lt2 v ↦ no_uses w a.self.now.scoped i _ (c.requires.worked_out.uses.uses_are i c.requires.i_in_bounds op) v.if-count-lt2.true
      | then-count-lt2-via-else-count-lt2+then-self-row-lt1 v ↦ no_symbol w a.self.now.scoped i _ (c.requires.worked_out.facts.symbol_at i c.requires.i_in_bounds) v.if-self-row-lt1.true
      | then-count-lt2-via-else-count-lt2+else-self-row-lt1+then-outside_uses-lt1 v ↦
          no_outside w a.self.now.scoped i (few_outside w a.self.now.scoped i _ (v.outside_uses.ensures ∙ outside_count a.self.now.scoped c.requires.worked_out.uses c.requires.worked_out.outside i c.requires.i_in_bounds op) v.if-outside_uses-lt1.true)
    ]

pub overflow_mul-result : goal.overflow_mul-result
overflow_mul-result c = (let a = c.args in let w = a.self.now.tokens.now in let i = a.i in let op = costs_operation w i c.requires.i_in_bounds (omega (arith, c.requires.worked_out.facts.cost_at i c.requires.i_in_bounds, c.if-cost-lt1.false)) in
    omega (arith, small_product (get_or a.self.now.uses.now (get_or a.self.now.classes.now i 0 / 4) 0 - 1) (get_or a.self.now.facts.now (4 * i + 1) 0) (omega (arith, c.requires.worked_out.uses.uses_are i c.requires.i_in_bounds op, uses_few w c.requires.worked_out.complete i c.requires.i_in_bounds, c.requires.worked_out.few)) (omega (arith, c.requires.worked_out.facts.cost_at i c.requires.i_in_bounds, cost_few w c.requires.worked_out.complete i c.requires.i_in_bounds, c.requires.worked_out.few))))

pub returns : goal.returns
returns c = (let a = c.args in let w = a.self.now.tokens.now in let i = a.i in let op = costs_operation w i c.requires.i_in_bounds (omega (arith, c.requires.worked_out.facts.cost_at i c.requires.i_in_bounds, c.if-cost-lt1.false)) in
    saved w a.self.now.scoped i _ _ (get_or a.self.now.uses.now (get_or a.self.now.classes.now i 0 / 4) 0) (c.requires.worked_out.facts.cost_at i c.requires.i_in_bounds) (omega (arith, c.if-cost-lt1.false)) (c.requires.worked_out.facts.symbol_at i c.requires.i_in_bounds) (omega (arith, c.if-self-row-lt1.false))
    (c.requires.worked_out.uses.uses_are i c.requires.i_in_bounds op) (omega (arith, c.if-count-lt2.false)) (some_outside w a.self.now.scoped i _ (c.outside_uses.ensures ∙ outside_count a.self.now.scoped c.requires.worked_out.uses c.requires.worked_out.outside i c.requires.i_in_bounds op) (omega (arith, c.if-outside_uses-lt1.false))))
