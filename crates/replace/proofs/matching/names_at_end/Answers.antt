-- `replace::matching::names_at_end` meets its contract. Assumes nothing.
use Rattle.std.proofs.Common.{arith}
use Rattle.replace.proofs.matching.Removing.{scan_starts, scan_turns, scan_stops}
use Rattle.replace.proofs.matching.names_at_end.Goals as goal

pub loop-k-init : goal.loop-k-init
loop-k-init c = scan_starts c.args.limit c.args.places.now

pub returns-then-places-k : goal.returns-then-places-k
returns-then-places-k c = let e = scan_stops c.args.limit c.args.places.now c.loop-k.k c.loop-k-test.true (omega arith) c.loop-k.invariant c.if-places-k.true in omega (arith, e)

pub loop-k-preserved : goal.loop-k-preserved
loop-k-preserved c = scan_turns c.args.limit c.args.places.now c.loop-k.k c.loop-k-test.true (omega arith) c.loop-k.invariant c.if-places-k.false
