use Rattle.reciprocals.proofs.final.Writing.{write_begins, write_room, write_turns, write_ends}
use Rattle.cse_flat.proofs.ending.write_rows.Goals as goal

pub loop-q-init : goal.loop-q-init
loop-q-init c = let t = c.args.trees.now in write_begins t.results t.places.now t.tokens.now c.args.taken.now c.args.table.now

pub write_entry-at-requires-clause-q_in_bounds : goal.write_entry-at-requires-clause-q_in_bounds
write_entry-at-requires-clause-q_in_bounds c = let t = c.args.trees.now in
    (c.loop-q-test.true, write_room t.results t.places.now t.tokens.now c.args.taken.now c.args.table.now c.requires.rows_in_bounds c.loop-q.invariant c.loop-q-test.true)

pub loop-q-preserved : goal.loop-q-preserved
loop-q-preserved c = let t = c.args.trees.now in
    write_turns t.results t.places.now t.tokens.now c.args.taken.now c.args.table.now c.requires.rows_in_bounds c.loop-q.invariant c.loop-q-test.true _ _ c.write_entry-at.ensures

pub returns : goal.returns
returns c = let t = c.args.trees.now in write_ends t.results t.places.now t.tokens.now c.args.taken.now c.args.table.now c.loop-q.invariant c.loop-q-test.false
