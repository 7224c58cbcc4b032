-- `rounds::value_numbers::find` meets its contract. Assumes nothing.
use native.Mathlib.Omega.{arith}
use mathlib.Core.Path.{sym, ◌∙◌}
use Rattle.rounds.proofs.value_numbers.Chains.{chase_turns, chase_finds, chase_ends, chase_past}
use Rattle.rounds.proofs.value_numbers.find.Goals as goal

pub loop-p-init : goal.loop-p-init
loop-p-init c = c.requires.chase

pub same_node-requires : goal.same_node-requires
same_node-requires c = record { complete = c.requires.complete; i_lt_p = (omega (arith, c.loop-p.invariant.low), c.loop-p-test.true); sized = c.requires.sized; known = c.requires.known }

pub returns-then-same_node : goal.returns-then-same_node
returns-then-same_node c = chase_finds _ c.requires.complete c.args.i c.requires.i_in_bounds c.loop-p.p c.loop-p.invariant c.loop-p-test.true (sym c.if-same_node.true ∙ c.same_node.ensures)

pub offset_bounds-next-p : goal.offset_bounds-next-p
offset_bounds-next-p c = omega (arith, c.requires.links.long, c.loop-p-test.true, c.well_formed.1.1.1.0)

pub bounds-next-p : goal.bounds-next-p
bounds-next-p c = omega (arith, c.requires.links.long, c.loop-p-test.true)

pub loop-p-smaller : goal.loop-p-smaller
loop-p-smaller c = omega (arith, chase_past _ c.requires.complete c.args.i c.requires.i_in_bounds _ c.loop-p.p c.requires.links c.loop-p.invariant c.loop-p-test.true, c.loop-p-test.true)

pub loop-p-preserved : goal.loop-p-preserved
loop-p-preserved c = chase_turns _ c.requires.complete c.args.i c.requires.i_in_bounds _ c.loop-p.p c.requires.links c.loop-p.invariant c.loop-p-test.true (sym c.if-same_node.false ∙ c.same_node.ensures)

pub returns : goal.returns
returns c = chase_ends _ c.requires.complete c.args.i c.requires.i_in_bounds c.loop-p.p c.loop-p.invariant c.loop-p-test.false
