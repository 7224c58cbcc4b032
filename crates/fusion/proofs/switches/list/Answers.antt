-- `fusion::switches::list` meets its contract: the places so far stand in front. Assumes nothing.
use native.Mathlib.Omega.{arith}
use mathlib.Core.Path.{sym, ◌∙◌}
use Rattle.fusion.proofs.switches.Listed.{starts, met_inside, list_long, turn_none, turn_one, list_full, list_ends}
use Rattle.fusion.proofs.switches.list.Goals.{then-is_new+else-n-places, else-is_new}
use Rattle.fusion.proofs.switches.list.Goals as goal

pub loop-p-init : goal.loop-p-init
loop-p-init c = starts c.args.tokens.now c.args.places.now

pub is_new-requires-clause-outsides : goal.is_new-requires-clause-outsides
is_new-requires-clause-outsides c = (c.requires.1, met_inside c.args.tokens.now c.loop-p.invariant)

pub returns-then-n-places : goal.returns-then-n-places
returns-then-n-places c = list_full c.args.tokens.now c.loop-p.invariant c.loop-p-test.true (omega (arith, list_long c.args.tokens.now c.loop-p.invariant, c.if-n-places.true)) (sym c.if-is_new.true ∙ c.is_new.ensures)

pub loop-p-preserved : goal.loop-p-preserved
loop-p-preserved c = elim c.if-is_new.branch [
  | then-is_new+else-n-places w ↦ rw (w.places-is, w.n-is) (turn_one c.args.tokens.now c.loop-p.invariant c.loop-p-test.true (omega (arith, list_long c.args.tokens.now c.loop-p.invariant, w.if-n-places.false)) (sym w.if-is_new.true ∙ c.is_new.ensures))
  | else-is_new w ↦ rw (w.places-is, w.n-is) (turn_none c.args.tokens.now c.loop-p.invariant c.loop-p-test.true (sym w.if-is_new.false ∙ c.is_new.ensures))
]

pub returns : goal.returns
returns c = list_ends c.args.tokens.now c.loop-p.invariant c.loop-p-test.false
