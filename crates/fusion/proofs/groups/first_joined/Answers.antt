-- `fusion::groups::first_joined` meets its contract. Assumes nothing.
use native.Mathlib.Omega.{arith}
use mathlib.Core.Path.{sym, ◌∙◌}
use Rattle.fusion.proofs.groups.Standing.{each_stands}
use Rattle.fusion.proofs.groups.Joining.{seeking_starts, joins_there, goes_past, seeking_ends}
use Rattle.fusion.proofs.groups.first_joined.Goals as goal

pub loop-j-init : goal.loop-j-init
loop-j-init c = seeking_starts c.args.tokens.now c.args.places.now c.args.i

pub joins-requires-clause-t : goal.joins-requires-clause-t
joins-requires-clause-t c = (each_stands c.args.tokens.now c.args.places.now c.requires.t c.loop-j.j (omega (arith, c.loop-j-test.true, c.requires.complete.1)), each_stands c.args.tokens.now c.args.places.now c.requires.t c.args.i c.requires.complete.1)

pub returns-then-joins : goal.returns-then-joins
returns-then-joins c = joins_there c.args.tokens.now c.args.places.now c.args.i c.loop-j.invariant c.loop-j-test.true (sym c.if-joins.true ∙ c.joins.ensures)

pub loop-j-preserved : goal.loop-j-preserved
loop-j-preserved c = goes_past c.args.tokens.now c.args.places.now c.args.i c.loop-j.invariant c.loop-j-test.true (sym c.if-joins.false ∙ c.joins.ensures)

pub returns : goal.returns
returns c = seeking_ends c.args.tokens.now c.args.places.now c.args.i c.loop-j.invariant c.loop-j-test.false
