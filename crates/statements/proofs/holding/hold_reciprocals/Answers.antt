-- `statements::holding::hold_reciprocals` meets its contract: the reciprocals from number j on are still to be written, over what is. Assumes nothing.
use Rattle.statements.proofs.holding.Gathering.{gathering_turns, gathering_ends}
use Rattle.statements.proofs.holding.hold_reciprocals.Goals as goal

pub loop-j-preserved : goal.loop-j-preserved
loop-j-preserved c = gathering_turns c.args.tokens.now c.args.places.now c.args.first c.requires.0 c.loop-j.j c.loop-j-test.true c.args.len c.args.work.now c.loop-j.work _ c.loop-j.n _ c.loop-j.invariant c.hold_one-n.ensures.value c.hold_one-n.ensures.work_after

pub returns-clause-value : goal.returns-clause-value
returns-clause-value c = (gathering_ends c.args.tokens.now c.args.places.now c.args.first c.requires.0 c.args.len c.args.work.now c.loop-j.work c.loop-j.n c.loop-j.j c.loop-j-test.false c.loop-j.invariant).0

pub returns-clause-work_after : goal.returns-clause-work_after
returns-clause-work_after c = (gathering_ends c.args.tokens.now c.args.places.now c.args.first c.requires.0 c.args.len c.args.work.now c.loop-j.work c.loop-j.n c.loop-j.j c.loop-j-test.false c.loop-j.invariant).1
