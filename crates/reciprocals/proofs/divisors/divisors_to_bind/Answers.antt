-- `reciprocals::divisors::divisors_to_bind` meets its contract. Assumes nothing.
use native.Mathlib.Omega.{arith}
use Rattle.spec_tree.specs.Tokens.{name_in}
use Rattle.fmt.specs.checked.Check.{rows_in}
use Rattle.reciprocals.proofs.divisors.Giving.{none_bound, bound, listed_room, chosen_there, front_long}
use Rattle.reciprocals.proofs.divisors.divisors_to_bind.Goals as goal

pub returns-then-list-lt2 : goal.returns-then-list-lt2
returns-then-list-lt2 c = let a = c.args in let w = a.tokens.now in let s = a.scoped in (none_bound w (name_in (rows_in a.rows.now)) s (omega (arith, c.if-list-lt2.true, c.list.ensures.0)), omega arith)

pub slice_bounds-sort-end : goal.slice_bounds-sort-end
slice_bounds-sort-end c = let a = c.args in let w = a.tokens.now in let s = a.scoped in listed_room c.list_chosen-n.ensures

pub slice_bounds-sort-end-2 : goal.slice_bounds-sort-end-2
slice_bounds-sort-end-2 c = front_long c.list_chosen-n.ensures

pub sort-requires : goal.sort-requires
sort-requires c = let a = c.args in
    let w = a.tokens.now in
    let s = a.scoped in
    record { complete = c.requires.complete.0; inside = chosen_there w s c.requires.complete.0 c.list_chosen-n.ensures; writable = record { pass = c.requires.complete.1; fits = omega (arith, c.requires.tokens_len_bound.0, c.requires.tokens_len_bound.2) } }

pub returns : goal.returns
returns c = let a = c.args in let w = a.tokens.now in let s = a.scoped in bound w (name_in (rows_in a.rows.now)) s c.list_chosen-n.ensures _ c.sort.ensures
