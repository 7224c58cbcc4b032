use native.Mathlib.Omega.{arith}
use Rattle.reciprocals.proofs.final.Taking.{trees_few}
use Rattle.reciprocals.proofs.final.Writing.{count_begins, count_turns, count_ends}
use Rattle.cse_flat.proofs.ending.count_rows.Goals as goal

pub overflow_add-rows : goal.overflow_add-rows
overflow_add-rows c = let r = c.args.trees.now.ready in omega (arith, c.loop-q.invariant.small, c.loop-q-test.true, c.entry_rows-rows.ensures.1, trees_few r, r.enough, r.numbers, c.requires.positions.few)

pub loop-q-init : goal.loop-q-init
loop-q-init c = let t = c.args.trees.now in count_begins t.results t.places.now t.tokens.now c.args.taken.now

pub loop-q-preserved : goal.loop-q-preserved
loop-q-preserved c = let t = c.args.trees.now in count_turns t.results t.places.now t.tokens.now c.args.taken.now c.loop-q.invariant c.loop-q-test.true c.entry_rows-rows.ensures

pub returns : goal.returns
returns c = let t = c.args.trees.now in count_ends t.results t.places.now t.tokens.now c.args.taken.now c.loop-q.invariant c.loop-q-test.false
