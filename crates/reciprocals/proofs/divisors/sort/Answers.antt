-- `reciprocals::divisors::sort` meets its contract. Assumes nothing.
use native.Mathlib.Omega.{arith}
use mathlib.Core.Path.{refl, ◌∙◌}
use Rattle.reciprocals.proofs.divisors.Sorting.{sorting_starts, lent_some, lent_inside, sorting_turns}
use Rattle.reciprocals.proofs.divisors.sort.Goals as goal

pub loop-i-init : goal.loop-i-init
loop-i-init c = let rows = c.args.rows.now in let w = c.args.tokens.now in (sorting_starts rows w c.args.places.now, refl)

pub insert_first-requires : goal.insert_first-requires
insert_first-requires c = let rows = c.args.rows.now in
    let w = c.args.tokens.now in
    let s = c.loop-i.invariant.0 in
    record { complete = (c.requires.complete, lent_some rows w s c.loop-i-test.true c.requires.inside); inside = lent_inside rows w s c.loop-i-test.true c.requires.inside; writable = record { pass = c.requires.writable.pass; fits = omega (arith, c.requires.writable.fits, c.loop-i.invariant.1) } }

pub loop-i-preserved : goal.loop-i-preserved
loop-i-preserved c = let rows = c.args.rows.now in let w = c.args.tokens.now in let s = c.loop-i.invariant.0 in (sorting_turns rows w s c.loop-i-test.true c.requires.inside _ c.insert_first.ensures, c.insert_first.auto.text ∙ c.loop-i.invariant.1)
