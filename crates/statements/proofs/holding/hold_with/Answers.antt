-- `statements::holding::hold_with` meets its contract: the reciprocal is written where it holds a switch. Assumes nothing.
use Rattle.statements.proofs.holding.Gathering.{one_passed, one_written}
use Rattle.statements.proofs.holding.hold_with.Goals as goal

pub returns-then-no_switch-clause-value : goal.returns-then-no_switch-clause-value
returns-then-no_switch-clause-value c = (one_passed c.args.tokens.now c.args.places.now c.args.first c.requires.ready c.args.j c.requires.j_in_bounds.0 _ _ c.take_reciprocal-m.ensures _ c.no_switch.ensures c.if-no_switch.true c.args.n c.args.work.now).0

pub returns-then-no_switch-clause-work_after : goal.returns-then-no_switch-clause-work_after
returns-then-no_switch-clause-work_after c = (one_passed c.args.tokens.now c.args.places.now c.args.first c.requires.ready c.args.j c.requires.j_in_bounds.0 _ _ c.take_reciprocal-m.ensures _ c.no_switch.ensures c.if-no_switch.true c.args.n c.args.work.now).1

pub returns-clause-value : goal.returns-clause-value
returns-clause-value c = (one_written c.args.tokens.now c.args.places.now c.args.first c.requires.ready c.args.j c.requires.j_in_bounds.0 _ _ c.take_reciprocal-m.ensures _
    c.no_switch.ensures c.if-no_switch.false c.args.n c.args.work.now _ c.put.ensures).0

pub returns-clause-work_after : goal.returns-clause-work_after
returns-clause-work_after c = (one_written c.args.tokens.now c.args.places.now c.args.first c.requires.ready c.args.j c.requires.j_in_bounds.0 _ _ c.take_reciprocal-m.ensures _
    c.no_switch.ensures c.if-no_switch.false c.args.n c.args.work.now _ c.put.ensures).1
