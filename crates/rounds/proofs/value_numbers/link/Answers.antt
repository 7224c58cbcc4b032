-- `rounds::value_numbers::link` meets its contract. Assumes nothing.
use native.Mathlib.Omega.{arith}
use Rattle.rounds.proofs.value_numbers.Laws.{last_high}
use Rattle.rounds.proofs.value_numbers.Chains.{passing_turns, chase_starts}
use Rattle.rounds.proofs.value_numbers.link.Goals as goal

pub find-place-requires : goal.find-place-requires
find-place-requires c = record { complete = c.requires.complete.0; i_in_bounds = c.requires.complete.1; sized = c.requires.sized; known = c.requires.passing.known; links = c.requires.passing.links; chase = chase_starts _ c.requires.complete.0 c.args.i c.requires.complete.1 _ c.args.b c.requires.passing.heads c.requires.complete.2 c.requires.b_value.0 c.requires.b_value.1 }

pub overflow_mul-classes : goal.overflow_mul-classes
overflow_mul-classes c = (omega (arith, c.find-place.ensures, last_high c.args.tokens.now c.args.i c.requires.complete.1, c.well_formed))

pub overflow_add-classes : goal.overflow_add-classes
overflow_add-classes c = (omega (arith, c.find-place.ensures, last_high c.args.tokens.now c.args.i c.requires.complete.1, c.well_formed))

pub returns : goal.returns
returns c = ((c.find-place.ensures, passing_turns c.requires.passing c.requires.complete.0 c.requires.complete.1 c.requires.complete.2 c.args.b c.find-place.result c.chosen.result c.requires.b_value.0 c.requires.b_value.1 c.find-place.ensures c.chosen.ensures))
