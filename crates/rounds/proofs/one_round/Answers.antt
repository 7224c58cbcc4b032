-- `rounds::one_round` meets its contract. Assumes nothing.
use native.Mathlib.Omega.{arith}
use mathlib.Core.Path.{refl, sym}
use lib.ListN.{take}
use lib.Seq.{length-take-le}
use Rattle.fmt.specs.checked.Check.{rows_in}
use Rattle.rounds.proofs.Lending.{lent_fewer, complete_so, writable_so}
use Rattle.rounds.proofs.Extracting.{turned_on, turned_down, found_at, found_none}
use borrow.Author.Rules.{rules}
use Rattle.std.specs.Prelude.{Err}
use Rattle.rounds.specs.Answers.{TurnedSo}
use Rattle.rounds.proofs.one_round.Goals as goal

pub slice_bounds-best_place-end-2 : goal.slice_bounds-best_place-end-2
slice_bounds-best_place-end-2 c = (let a = c.args in sym (length-take-le a.len a.tokens.now c.requires.t.1))

pub best_place-found-requires : goal.best_place-found-requires
best_place-found-requires c = let a = c.args in
    let ws = take a.len a.tokens.now in
    let l = length-take-le a.len a.tokens.now c.requires.t.1 in
    record { complete = (complete_so a.rows.now ws a.name c.requires.t.0, omega (arith, l, c.requires.t.2), writable_so a.rows.now ws a.name c.requires.t.0 _ (omega (arith, l, c.requires.t.2)) c.requires.name_bound.1); lent = lent_fewer c.requires.lent (omega (arith, l)) refl refl refl refl refl }

pub extract_here-requires : goal.extract_here-requires
extract_here-requires c = let a = c.args in
    record { chosen = record { good = c.requires.t.0; best = found_at (rows_in a.rows.now) a.tokens.now a.len a.scoped a.name _ c.best_place-found.ensures c.in-Some.at c.in-Some.is }; len_in_bounds = (c.requires.t.1, c.requires.t.2, c.requires.name_bound.0); len_in_bounds_2 = (omega (arith, c.requires.lent.for_facts, c.best_place-found.auto), omega (arith, c.requires.lent.for_uses, c.best_place-found.auto)) }

pub returns-in_default : goal.returns-in_default
returns-in_default c = let a = c.args in (found_none (rows_in a.rows.now) a.tokens.now a.len a.scoped a.name _ c.best_place-found.ensures c.in_default.is, refl)

pub returns-in_err-now : goal.returns-in_err-now
returns-in_err-now c =
    let a = c.args in
    let t : TurnedSo (rows_in a.rows.now) a.tokens.now a.len a.scoped a.name (Err c.in_err-now.field-0.0) c.extract_here.new.tokens =
    turned_down (rows_in a.rows.now) a.tokens.now a.len a.scoped a.name c.in-Some.at (found_at (rows_in a.rows.now) a.tokens.now a.len a.scoped a.name _ c.best_place-found.ensures c.in-Some.at c.in-Some.is) c.extract_here.result _ c.extract_here.ensures c.in_err-now.field-0.0 c.in_err-now.was in
    search rules

pub returns : goal.returns
returns c =
    let a = c.args in
    turned_on (rows_in a.rows.now) a.tokens.now a.len a.scoped a.name c.in-Some.at (found_at (rows_in a.rows.now) a.tokens.now a.len a.scoped a.name _ c.best_place-found.ensures c.in-Some.at c.in-Some.is) c.extract_here.result _ c.extract_here.ensures c.in_ok-now.now c.in_ok-now.was
