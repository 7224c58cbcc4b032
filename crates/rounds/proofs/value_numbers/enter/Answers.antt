-- `rounds::value_numbers::enter` meets its contract. Assumes nothing.
use native.Mathlib.Omega.{arith}
use Rattle.rounds.proofs.value_numbers.Passes.{put_sized, leaf_put, leaf_passing, leaf_counted, uses_fit, uses_turn}
use Rattle.rounds.proofs.value_numbers.enter.Goals as goal

pub put_leaf-requires : goal.put_leaf-requires
put_leaf-requires c = ((omega (arith, c.requires.complete), omega (arith, c.requires.complete, c.requires.passing.0.known.long)))

pub returns-then-w-le-CONST : goal.returns-then-w-le-CONST
returns-then-w-le-CONST c = ((
  leaf_put (omega (arith, c.if-w-le-CONST.true)) c.put_leaf.ensures,
  leaf_passing c.requires.passing.0 c.requires.complete.0 c.requires.complete.1 (omega (arith, c.if-w-le-CONST.true)) c.put_leaf.ensures,
  leaf_counted c.requires.passing.1 c.requires.complete.0
      c.requires.complete.1 (omega (arith, c.if-w-le-CONST.true)),
))

pub put_facts-b-requires : goal.put_facts-b-requires
put_facts-b-requires c = record { complete = c.requires.complete; bound = omega (arith, c.if-w-le-CONST.false); sized = (c.requires.sized.0, c.requires.passing.0.known); ready = c.requires.sized.1 }

pub link-place-requires : goal.link-place-requires
link-place-requires c = record { complete = (c.requires.complete.0, c.requires.complete.1, omega (arith, c.if-w-le-CONST.false)); b_value = (c.put_facts-b.ensures.1, c.put_facts-b.ensures.2); sized = put_sized c.put_facts-b.ensures.0 c.requires.sized.0; passing = c.requires.passing.0 }

pub offset_bounds-uses-place : goal.offset_bounds-uses-place
offset_bounds-uses-place c = (let f = uses_fit c.requires.passing.1 c.requires.complete.0 c.requires.complete.1 (omega
    (arith, c.if-w-le-CONST.false)) c.link-place.result c.link-place.ensures.0 in
    omega (arith, f.0, f.1, c.requires.passing.1.long, c.well_formed))

pub bounds-uses-place : goal.bounds-uses-place
bounds-uses-place c = (let f = uses_fit c.requires.passing.1 c.requires.complete.0 c.requires.complete.1 (omega
    (arith, c.if-w-le-CONST.false)) c.link-place.result
    c.link-place.ensures.0 in
    omega (arith, f.0, f.1, c.requires.passing.1.long, c.well_formed))

pub overflow_add-uses : goal.overflow_add-uses
overflow_add-uses c = (let f = uses_fit c.requires.passing.1 c.requires.complete.0 c.requires.complete.1 (omega
    (arith, c.if-w-le-CONST.false)) c.link-place.result
    c.link-place.ensures.0 in
    omega (arith, f.0, f.1, c.requires.passing.1.long, c.well_formed))

pub bounds-uses-place-2 : goal.bounds-uses-place-2
bounds-uses-place-2 c = (let f = uses_fit c.requires.passing.1 c.requires.complete.0 c.requires.complete.1 (omega
    (arith, c.if-w-le-CONST.false)) c.link-place.result
    c.link-place.ensures.0 in
    omega (arith, f.0, f.1, c.requires.passing.1.long, c.well_formed))

pub returns : goal.returns
returns c = ((
  c.put_facts-b.ensures.0,
  c.link-place.ensures.1,
  uses_turn c.requires.passing.1 c.requires.complete.0 c.requires.complete.1 (omega
      (arith, c.if-w-le-CONST.false)) c.link-place.result
      c.link-place.ensures.0,
))
