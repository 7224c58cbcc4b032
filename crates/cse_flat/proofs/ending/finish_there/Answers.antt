use native.Mathlib.Omega.{arith}
use mathlib.Core.Path.{sym}
use lib.Seq.{length-take-le}
use Rattle.reciprocals.proofs.final.Starting.{trees_many, ready_is}
use Rattle.cse_flat.proofs.ending.Ends.{made_is, there_is}
use Rattle.cse_flat.proofs.ending.finish_there.Goals as goal

pub settle_all-n-requires-clause-there : goal.settle_all-n-requires-clause-there
settle_all-n-requires-clause-there c = let a = c.args in there_is a.tokens.now a.results a.places.now c.requires.there.0 c.requires.there.1 a.count c.requires.counted

pub slice_bounds-trees-end-3 : goal.slice_bounds-trees-end-3
slice_bounds-trees-end-3 c =
    let a = c.args in
    let there = there_is a.tokens.now a.results a.places.now c.requires.there.0 c.requires.there.1 a.count c.requires.counted in
    omega (arith, trees_many there, c.requires.lent.for_starts, c.list_trees.auto.starts)

pub slice_bounds-trees-end-4 : goal.slice_bounds-trees-end-4
slice_bounds-trees-end-4 c =
    let a = c.args in
    let there = there_is a.tokens.now a.results a.places.now c.requires.there.0 c.requires.there.1 a.count c.requires.counted in
    sym (length-take-le _ _ (omega (arith, trees_many there, c.requires.lent.for_starts, c.list_trees.auto.starts)))

pub invariant_of-trees : goal.invariant_of-trees
invariant_of-trees c =
    let a = c.args in
    let there = there_is a.tokens.now a.results a.places.now c.requires.there.0 c.requires.there.1 a.count c.requires.counted in
    record { ready = ready_is there _ _ c.settle_all-n.ensures a.starts.now _ (omega (arith, trees_many there, c.requires.lent.for_starts)) c.list_trees.ensures.1 }

pub finish_settled-requires-clause-places_in_bounds : goal.finish_settled-requires-clause-places_in_bounds
finish_settled-requires-clause-places_in_bounds c =
    let a = c.args in
    let there = there_is a.tokens.now a.results a.places.now c.requires.there.0 c.requires.there.1 a.count c.requires.counted in
    let made = made_is a.tokens.now a.results a.count c.requires.counted in
    let long = length-take-le a.count c.list_trees.new.starts (omega (arith, trees_many there, c.requires.lent.for_starts, c.list_trees.auto.starts)) in
    (omega (arith, made, long, c.requires.lent.for_taken), omega (arith, made, long, c.requires.lent.for_waiting), c.requires.lent.for_links)
