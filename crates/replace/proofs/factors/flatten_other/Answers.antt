-- `replace::factors::flatten_other` meets its contract. Assumes nothing.
use Rattle.std.proofs.Common.{arith}
use Rattle.replace.proofs.coefficient.Exactness.{one_literal}
use Rattle.replace.proofs.factors.WordRuns.{node_of}
use Rattle.replace.proofs.factors.Flattening.{constant_done, other_done}
use Rattle.replace.proofs.factors.flatten_other.Goals as goal

pub offset_bounds-tokens-at : goal.offset_bounds-tokens-at
offset_bounds-tokens-at c = omega (arith, (node_of c.requires.stands).inside, c.well_formed.0)

pub bounds-tokens-at : goal.bounds-tokens-at
bounds-tokens-at c = (node_of c.requires.stands).inside

pub returns-then-w-eq-CONST : goal.returns-then-w-eq-CONST
returns-then-w-eq-CONST c = constant_done c.requires.stands c.args.places.now c.args.used _ c.if-w-eq-CONST.true c.float_of.ensures

pub bounds-places-used : goal.bounds-places-used
bounds-places-used c = omega (arith, (node_of c.requires.stands).long, c.requires.at_in_bounds)

pub returns : goal.returns
returns c = (other_done c.requires.stands c.args.places.now c.args.used _ c.if-w-eq-CONST.false c.requires.at_value one_literal, c.past.ensures)
