-- `reciprocals::divisors::is_chosen` meets its contract. Assumes nothing.
use native.Mathlib.Omega.{arith}
use mathlib.Core.Path.{sym, ◌∙◌}
use borrow.Author.Tests.{leb-true, leb-false, ne_eqb}
use Rattle.std.proofs.lemmas.Bool.{false≢true}
use lib.ListN.{length}
use Rattle.reciprocals.proofs.divisors.Within.{inside_at, inside_take}
use Rattle.reciprocals.proofs.divisors.Sizes.{sized_at, sized_take}
use Rattle.reciprocals.proofs.divisors.Counting.{stood_before, stands_once, last_test}
use Rattle.reciprocals.proofs.divisors.is_chosen.Goals as goal
use Rattle.reciprocals.proofs.divisors.is_chosen.Goals.{then-count_sized-eq0, else-count_sized-eq0}

pub count_sized-requires : goal.count_sized-requires
count_sized-requires c = let w = c.args.tokens.now in
    let all = c.args.all.now in
    let i = c.args.i in
    let t = c.args.sizes.now in
    record { complete = (c.requires.complete.0, inside_at (length w) all i c.requires.inside.0 c.requires.complete.1); inside = inside_take (length w) i all c.requires.inside.0; size_there = (sized_at w t all i c.requires.sized.0 c.requires.complete.1, sized_take w t i all c.requires.sized.0) }

pub count_sized-requires-then-count_sized-eq0 : goal.count_sized-requires-then-count_sized-eq0
count_sized-requires-then-count_sized-eq0 c = let w = c.args.tokens.now in
    let all = c.args.all.now in
    let i = c.args.i in
    let t = c.args.sizes.now in
    record { complete = (c.requires.complete.0, inside_at (length w) all i c.requires.inside.0 c.requires.complete.1); inside = c.requires.inside.0; size_there = (sized_at w t all i c.requires.sized.0 c.requires.complete.1, c.requires.sized.0) }

pub count_sized-requires-then-count_sized-ge2 : goal.count_sized-requires-then-count_sized-ge2
count_sized-requires-then-count_sized-ge2 c = let w = c.args.tokens.now in
    let all = c.args.all.now in
    let i = c.args.i in
    let t = c.args.sizes.now in
    record { complete = (c.requires.complete.0, inside_at (length w) all i c.requires.inside.0 c.requires.complete.1); inside = c.requires.inside.1; size_there = (sized_at w t all i c.requires.sized.0 c.requires.complete.1, c.requires.sized.1) }

pub returns-then-count_sized-ge2 : goal.returns-then-count_sized-ge2
returns-then-count_sized-ge2 c =
    elim c.if-count_sized-eq0.branch [
      | then-count_sized-eq0 w ↦
          last_test c.args.tokens.now c.args.all.now c.args.outside.now c.args.i _ _ _ c.count_sized.ensures (omega (arith, w.if-count_sized-eq0.true)) w.count_sized-then-count_sized-eq0.ensures
          (leb-true 2 _ (sym w.value-is ∙ c.if-count_sized-ge2.true)) c.count_sized-then-count_sized-ge2.ensures
      | else-count_sized-eq0 w ↦ absurd (false≢true (sym (w.value-is ∙ ne_eqb _ 0 w.if-count_sized-eq0.false) ∙ c.if-count_sized-ge2.true))
    ]

pub returns-else-count_sized-ge2 : goal.returns-else-count_sized-ge2
returns-else-count_sized-ge2 c =
    elim c.if-count_sized-eq0.branch [
      | then-count_sized-eq0 w ↦
          c.if-count_sized-ge2.false
          ∙ stands_once c.args.tokens.now c.args.all.now c.args.outside.now c.args.i _ w.count_sized-then-count_sized-eq0.ensures (let few = leb-false 2 _ (sym w.value-is ∙ c.if-count_sized-ge2.false) in few)
      | else-count_sized-eq0 w ↦ c.if-count_sized-ge2.false ∙ stood_before c.args.tokens.now c.args.all.now c.args.outside.now c.args.i _ c.count_sized.ensures (omega (arith, w.if-count_sized-eq0.false))
    ]
