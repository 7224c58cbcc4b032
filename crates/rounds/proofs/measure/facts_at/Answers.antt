-- `rounds::measure::facts_at` meets its contract. Assumes nothing.
use Prim.Native.Nat.{ℕ, ◌+◌, ◌%◌, ◌/◌}
use native.Mathlib.Omega.{arith}
use mathlib.Core.Path.{sym, ◌∙◌, ap}
use lib.ListN.{get_or}
use Rattle.spec_tree.proofs.TokenLaws.{operation_takes}
use Rattle.rounds.specs.measure.Columns.{column}
use Rattle.rounds.specs.value_numbers.Classes.{mixed_all}
use Rattle.rounds.specs.value_numbers.Walks.{below}
use Rattle.rounds.proofs.measure.Walking.{small, operands_small, word_facts}
use Rattle.rounds.proofs.measure.facts_at.Goals as goal

pub of_operands-all-requires : goal.of_operands-all-requires
of_operands-all-requires c = let e = sym (operation_takes (get_or c.args.tokens.now c.args.at 0) c.requires.at_in_bounds.1) in
    let k = small e c.requires.ready in
    record { inside = (k.inside, rw e c.requires.walk); count_bound = (omega (arith, k.sizes, c.well_formed.0), omega (arith, k.costs, c.well_formed.0)) }

pub operands_cost-costs-requires : goal.operands_cost-costs-requires
operands_cost-costs-requires c = (let e = sym (operation_takes (get_or c.args.tokens.now c.args.at 0) c.requires.at_in_bounds.1) in
    ((small e c.requires.ready).inside, c.of_operands-all.ensures.costs))

pub overflow_add-result : goal.overflow_add-result
overflow_add-result c = (let e = sym (operation_takes (get_or c.args.tokens.now c.args.at 0) c.requires.at_in_bounds.1) in
    omega (arith, (small e c.requires.ready).sizes, c.of_operands-all.ensures.sizes, c.well_formed.0))

pub overflow_add-result-2 : goal.overflow_add-result-2
overflow_add-result-2 c = (let a = c.args in let w = get_or a.tokens.now a.at 0 in let e = sym (operation_takes w c.requires.at_in_bounds.1) in
    omega (arith, (small e c.requires.ready).costs, c.operands_cost-costs.ensures, operands_small (w % 64) (column a.facts.now 1 (a.at + 1) (w / 64)), c.well_formed.0))

pub overflow_add-result-3 : goal.overflow_add-result-3
overflow_add-result-3 c = (let e = sym (operation_takes (get_or c.args.tokens.now c.args.at 0) c.requires.at_in_bounds.1) in
    omega (arith, (small e c.requires.ready).depths, c.of_operands-all.ensures.depths, c.well_formed.0))

pub returns : goal.returns
returns c = (let a = c.args in let w = get_or a.tokens.now a.at 0 in let fs = a.facts.now in let e = sym (operation_takes w c.requires.at_in_bounds.1) in
    (word_facts w fs (a.at + 1) c.requires.at_in_bounds.1 e c.of_operands-all.ensures.sizes c.operands_cost-costs.ensures c.of_operands-all.ensures.depths c.of_operands-all.ensures.symbols, c.of_operands-all.ensures.key ∙ ap (λ (n : ℕ). mixed_all w (below fs a.classes.now (a.at + 1) n)) e))
