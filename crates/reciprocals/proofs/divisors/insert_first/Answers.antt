-- `reciprocals::divisors::insert_first` meets its contract. Assumes nothing.
use native.Mathlib.Omega.{arith}
use mathlib.Core.Path.{refl, sym, ◌∙◌}
use Prim.Native.Nat.{◌+◌}
use lib.ListN.{length, get_or}
use Rattle.spec_tree.specs.Tokens.{trees_in}
use Rattle.rounds.specs.choice.Leading.{Writable}
use Rattle.rounds.proofs.choice.Passing.{place_stands, texts_fit}
use Rattle.std.proofs.lemmas.List.Edits.{swap_is}
use Rattle.reciprocals.proofs.divisors.Within.{not_none}
use Rattle.reciprocals.proofs.divisors.Sorting.{inserting_starts, places_inside, by_text, inserting_stops, inserting_goes, inserting_ends}
use Rattle.reciprocals.proofs.divisors.insert_first.Goals as goal

pub loop-j-init : goal.loop-j-init
loop-j-init c = let rows = c.args.rows.now in let w = c.args.tokens.now in (inserting_starts rows w c.args.places.now c.requires.complete.1 c.requires.inside, refl)

pub before_at-requires : goal.before_at-requires
before_at-requires c =
    let a = c.args in
    let s = c.loop-j.invariant.0 in
    let inside = places_inside a.rows.now a.tokens.now s (omega arith) in
    let whole = not_none (trees_in a.tokens.now) c.requires.complete.0 in
    let writable : Writable a.rows.now a.tokens.now (length c.loop-j.text) = record { pass = c.requires.writable.pass; fits = omega (arith, c.requires.writable.fits, c.loop-j.invariant.1) } in
    let stands = place_stands a.rows.now a.tokens.now _ whole writable (λ j. omega (arith, c.type_inv.tokens j)) in
    let fit = texts_fit a.rows.now a.tokens.now _ whole writable (λ j. omega (arith, c.type_inv.tokens j)) in
    record {
      stands = (stands (get_or c.loop-j.places (c.loop-j.j + 1) 0) inside.0, stands (get_or c.loop-j.places c.loop-j.j 0) inside.1);
      j_in_bounds = fit (get_or c.loop-j.places (c.loop-j.j + 1) 0) (get_or c.loop-j.places c.loop-j.j 0) inside.0 inside.1;
    }

pub returns-then-not-before_at : goal.returns-then-not-before_at
returns-then-not-before_at c =
    let rows = c.args.rows.now in
    let w = c.args.tokens.now in
    inserting_stops rows w c.loop-j.invariant.0 (omega arith) (sym (c.if-not-before_at.true) ∙ by_text rows w (get_or c.loop-j.places (c.loop-j.j + 1) 0) (get_or c.loop-j.places c.loop-j.j 0) _ c.before_at.ensures)

pub loop-j-preserved : goal.loop-j-preserved
loop-j-preserved c =
    let rows = c.args.rows.now in
    let w = c.args.tokens.now in
    let s = c.loop-j.invariant.0 in
    let turn = inserting_goes rows w s (omega arith) (sym (c.if-not-before_at.false) ∙ by_text rows w (get_or c.loop-j.places (c.loop-j.j + 1) 0) (get_or c.loop-j.places c.loop-j.j 0) _ c.before_at.ensures) in
    let swapped = c.swap.ensures.after ∙ sym (swap_is c.loop-j.places c.loop-j.j (c.loop-j.j + 1) 0 (omega arith) (omega arith)) in
    (rw swapped turn, c.before_at.auto.text ∙ c.loop-j.invariant.1)

pub returns : goal.returns
returns c = let rows = c.args.rows.now in let w = c.args.tokens.now in inserting_ends rows w c.loop-j.invariant.0 (omega arith)
