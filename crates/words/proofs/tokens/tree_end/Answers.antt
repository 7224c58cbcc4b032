-- `words::tokens::tree_end` meets its contract. Assumes nothing.
use native.Mathlib.Omega.{arith}
use lib.ListN.{get_or}
use Rattle.spec_tree.proofs.TokenLaws.{takes_below}
use Rattle.words.proofs.tokens.Counting.{there_starts, there_room, ending_turns, ending_ends}
use Rattle.words.proofs.tokens.tree_end.Goals as goal

pub loop-due-init : goal.loop-due-init
loop-due-init c = there_starts c.requires

pub overflow_sub-due : goal.overflow_sub-due
overflow_sub-due c = omega arith

pub offset_bounds-tokens-next : goal.offset_bounds-tokens-next
offset_bounds-tokens-next c = omega (arith, c.loop-due.invariant, there_room c.requires c.loop-due.invariant, c.loop-due-test.true, c.well_formed.0)

pub bounds-tokens-next : goal.bounds-tokens-next
bounds-tokens-next c = omega (arith, there_room c.requires c.loop-due.invariant, c.loop-due-test.true)

pub overflow_add-due : goal.overflow_add-due
overflow_add-due c = let w = get_or c.args.tokens.now c.loop-due.next 0 in
    omega (
      arith,
      c.loop-due.invariant,
      there_room c.requires c.loop-due.invariant,
      c.well_formed.0,
      c.operand_count.ensures,
      takes_below w,
      c.type_inv.tokens c.loop-due.next,
    )

pub loop-due-smaller : goal.loop-due-smaller
loop-due-smaller c = omega (arith, there_room c.requires c.loop-due.invariant, c.loop-due-test.true)

pub loop-due-preserved : goal.loop-due-preserved
loop-due-preserved c = rw c.operand_count.ensures
    (ending_turns c.loop-due.invariant c.loop-due-test.true (omega (arith, there_room c.requires c.loop-due.invariant, c.loop-due-test.true)))

pub returns : goal.returns
returns c = ending_ends c.loop-due.invariant c.loop-due-test.false
