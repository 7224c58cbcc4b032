-- `reciprocals::settle::settle` meets its contract. Assumes nothing.
use mathlib.Core.Path.{sym}
use native.Mathlib.Omega.{arith}
use lib.ListN.{take}
use lib.Seq.{length-take-le}
use Rattle.spec_tree.specs.Tokens.{trees_in}
use Rattle.words.specs.words.Words.{Complete}
use Rattle.words.proofs.words.Requests.{counted_ok, uncounted_err}
use Rattle.reciprocals.proofs.settle.Settling.{too_few, incomplete, long_list, high_number, many_places, nothing_to_settle}
use borrow.Author.Rules.{rules}
use Rattle.reciprocals.proofs.settle.settle.Goals as goal
use Rattle.reciprocals.proofs.settle.settle.Goals.{then-len-gt-AREA-via-then-len-gt-AREA, then-len-gt-AREA-via-else-len-gt-AREA+then-first-gt-NUMBERS, then-len-gt-AREA-via-else-len-gt-AREA+else-first-gt-NUMBERS+then-places-gt-NUMBERS}

pub returns-then-len-tokens : goal.returns-then-len-tokens
returns-then-len-tokens c = let a = c.args in too_few a.base.now a.places.now a.from a.first a.tokens.now a.len c.if-len-tokens.true

pub slice_bounds-count_trees-end-2 : goal.slice_bounds-count_trees-end-2
slice_bounds-count_trees-end-2 c = let a = c.args in sym (length-take-le a.len a.tokens.now c.if-len-tokens.false)

pub returns-in_err-ok_or : goal.returns-in_err-ok_or
returns-in_err-ok_or c =
    let a = c.args in
    let e = incomplete a.base.now a.places.now a.from a.first a.tokens.now a.len (uncounted_err (trees_in (take a.len a.tokens.now)) _ _ (rw c.count_trees.ensures at c.ok_or.ensures.value) c.in_err-ok_or.was) c.if-len-tokens.false in
    search rules

pub returns-then-len-gt-AREA : goal.returns-then-len-gt-AREA
returns-then-len-gt-AREA c =
    let a = c.args in
    let whole : Complete (take a.len a.tokens.now) = (c.in_ok-ok_or.field-0, (counted_ok _ (trees_in (take a.len a.tokens.now)) _ (rw c.count_trees.ensures at c.ok_or.ensures.value) c.in_ok-ok_or.was)) in
    elim c.then-len-gt-AREA.branch [
      | then-len-gt-AREA-via-then-len-gt-AREA w ↦ long_list a.base.now a.places.now a.from a.first a.tokens.now a.len c.if-len-tokens.false whole w.if-len-gt-AREA.true
      | then-len-gt-AREA-via-else-len-gt-AREA+then-first-gt-NUMBERS w ↦ high_number a.base.now a.places.now a.from a.first a.tokens.now a.len c.if-len-tokens.false whole w.if-len-gt-AREA.false w.if-first-gt-NUMBERS.true
      | then-len-gt-AREA-via-else-len-gt-AREA+else-first-gt-NUMBERS+then-places-gt-NUMBERS w ↦
          many_places a.base.now a.places.now a.from a.first a.tokens.now a.len c.if-len-tokens.false whole w.if-len-gt-AREA.false w.if-first-gt-NUMBERS.false w.if-places-gt-NUMBERS.true
    ]

pub returns-then-from-places : goal.returns-then-from-places
returns-then-from-places c =
    let a = c.args in
    let whole : Complete (take a.len a.tokens.now) = (c.in_ok-ok_or.field-0, (counted_ok _ (trees_in (take a.len a.tokens.now)) _ (rw c.count_trees.ensures at c.ok_or.ensures.value) c.in_ok-ok_or.was)) in
    nothing_to_settle a.base.now a.places.now a.from a.first a.tokens.now a.len c.if-len-tokens.false whole c.if-len-gt-AREA.false c.if-first-gt-NUMBERS.false c.if-places-gt-NUMBERS.false c.if-from-places.true

pub settle_within-requires : goal.settle_within-requires
settle_within-requires c =
    let a = c.args in
    let whole : Complete (take a.len a.tokens.now) = (c.in_ok-ok_or.field-0, (counted_ok _ (trees_in (take a.len a.tokens.now)) _ (rw c.count_trees.ensures at c.ok_or.ensures.value) c.in_ok-ok_or.was)) in
    record { len_in_bounds = (c.if-len-tokens.false, whole); len_bound = (c.if-len-le-FEW.true, omega arith, c.if-first-gt-NUMBERS.false, c.if-places-gt-NUMBERS.false) }

pub settle_within-requires-else-len-le-FEW : goal.settle_within-requires-else-len-le-FEW
settle_within-requires-else-len-le-FEW c =
    let a = c.args in
    let whole : Complete (take a.len a.tokens.now) = (c.in_ok-ok_or.field-0, (counted_ok _ (trees_in (take a.len a.tokens.now)) _ (rw c.count_trees.ensures at c.ok_or.ensures.value) c.in_ok-ok_or.was)) in
    record { len_in_bounds = (c.if-len-tokens.false, whole); len_bound = (c.if-len-gt-AREA.false, omega arith, c.if-first-gt-NUMBERS.false, c.if-places-gt-NUMBERS.false) }
