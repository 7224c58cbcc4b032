-- `fusion::groups::write_group` meets its contract: the members so far stand in front. Assumes nothing.
use native.Mathlib.Omega.{arith}
use mathlib.Core.Path.{sym, ◌∙◌}
use Rattle.fusion.proofs.groups.Standing.{each_stands}
use Rattle.fusion.proofs.groups.Members.{starts, group_long, turn_none, one_fits, turn_one, group_ends}
use Rattle.fusion.proofs.groups.write_group.Goals.{then-joins, else-joins}
use Rattle.fusion.proofs.groups.write_group.Goals as goal

pub loop-j-init : goal.loop-j-init
loop-j-init c = starts c.args.tokens.now c.args.places.now c.args.i c.args.members.now c.requires.complete.1

pub joins-requires-clause-t : goal.joins-requires-clause-t
joins-requires-clause-t c = (each_stands c.args.tokens.now c.args.places.now c.requires.t c.args.i c.requires.complete.1, each_stands c.args.tokens.now c.args.places.now c.requires.t c.loop-j.j c.loop-j-test.true)

pub bounds-members-n : goal.bounds-members-n
bounds-members-n c = omega (arith, one_fits c.args.tokens.now c.args.places.now c.args.i c.loop-j.invariant c.requires.i_value c.loop-j-test.true (sym c.if-joins.true ∙ c.joins.ensures) c.requires.i_in_bounds, group_long c.args.tokens.now c.args.places.now c.args.i c.loop-j.invariant c.requires.i_in_bounds)

pub loop-j-preserved : goal.loop-j-preserved
loop-j-preserved c = elim c.if-joins.branch [
  | then-joins w ↦ rw (w.members-is, w.n-is) (turn_one c.args.tokens.now c.args.places.now c.args.i c.loop-j.invariant c.requires.i_value c.loop-j-test.true (sym w.if-joins.true ∙ c.joins.ensures) c.requires.i_in_bounds)
  | else-joins w ↦ rw (w.members-is, w.n-is) (turn_none c.args.tokens.now c.args.places.now c.args.i c.loop-j.invariant c.requires.i_value c.loop-j-test.true (sym w.if-joins.false ∙ c.joins.ensures))
]

pub returns : goal.returns
returns c = group_ends c.args.tokens.now c.args.places.now c.args.i c.loop-j.invariant c.loop-j-test.false
