-- `statements::holding::hold` meets its contract: what is wrong is told before anything is written. Assumes nothing.
use Rattle.statements.proofs.holding.Ends.{held_broken, held_full, ready_so, held_many, held_written}
use Rattle.statements.proofs.holding.hold.Goals as goal

pub returns-then-not-whole : goal.returns-then-not-whole
returns-then-not-whole c = let a = c.args in held_broken a.tokens.now a.places.now a.first a.held.now _ c.whole.ensures (c.if-not-whole.true)

pub returns-then-not-room_for : goal.returns-then-not-room_for
returns-then-not-room_for c = let a = c.args in held_full a.tokens.now a.places.now a.first a.held.now _ c.whole.ensures (c.if-not-whole.false) _ c.room_for.ensures (c.if-not-room_for.true)

pub hold_all-n-requires : goal.hold_all-n-requires
hold_all-n-requires c = let a = c.args in ready_so a.tokens.now a.places.now a.first a.held.now _ c.whole.ensures (c.if-not-whole.false) _ c.room_for.ensures (c.if-not-room_for.false)

pub returns-then-n-held : goal.returns-then-n-held
returns-then-n-held c = let a = c.args in held_many a.tokens.now a.places.now a.first a.held.now _ c.whole.ensures (c.if-not-whole.false) _ c.room_for.ensures (c.if-not-room_for.false) _ c.hold_all-n.ensures.value _ c.hold_all-n.ensures.work_after c.if-n-held.true

pub returns : goal.returns
returns c = let a = c.args in held_written a.tokens.now a.places.now a.first a.held.now _ c.whole.ensures (c.if-not-whole.false) _ c.room_for.ensures (c.if-not-room_for.false) _ c.hold_all-n.ensures.value _ c.hold_all-n.ensures.work_after c.if-n-held.false
