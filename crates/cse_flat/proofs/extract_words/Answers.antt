use Rattle.std.proofs.Common.{rules}
use native.Mathlib.Omega.{arith}
use Rattle.std.specs.Prelude.{◌≡◌, Err}
use mathlib.Core.Path.{ap}
use lib.ListN.{length, take}
use lib.Seq.{length-take-le}
use Rattle.cse_flat.specs.declared.ending.FinishError.TheVariants as finish_error
use Rattle.cse_flat.proofs.refined.Starting.{start_short}
use Rattle.cse_flat.proofs.refined.Unfolding.{unfolded_words}
use Rattle.cse_flat.proofs.refined.Flat.{flat_extractable, flat_symbols}
use Rattle.cse_flat.proofs.Ends.{stops_at_10, words_there, words_long, places_there, places_long, finish_there, finish_counts, finish_room, ends_so, ends_in_rows, ends_refused, never_broken, never_roomless}
use Rattle.cse_flat.proofs.extract_words.Goals as goal

pub list_in-requires : goal.list_in-requires
list_in-requires c = let a = c.args in
    let u = unfolded_words a.rows.now a.roots.now (take a.len a.tokens.now) c.requires.roots_value.0 in
    let f = start_short a.rows.now a.roots.now u.0 in
    record { t = (flat_extractable a.rows.now a.roots.now 0 u.0 _ u.1, flat_symbols a.rows.now a.roots.now 0 u.0 _ u.1); len_bound = (omega (arith, ap length u.1, length-take-le a.len a.tokens.now c.requires.roots_value.1, f), c.requires.roots_value.1); lent = c.requires.lent; in_bounds = (c.requires.len_in_bounds.2, c.requires.roots_value.2) }

pub returns-in_err-listed : goal.returns-in_err-listed
returns-in_err-listed c = let a = c.args in let u = unfolded_words a.rows.now a.roots.now (take a.len a.tokens.now) c.requires.roots_value.0 in let e = stops_at_10 a.rows.now a.roots.now a.table.now u.0 _ u.1 c.list_in.result _ _ c.list_in.ensures _ c.in_err-listed.was in search rules

pub slice_bounds-finish-end : goal.slice_bounds-finish-end
slice_bounds-finish-end c = let a = c.args in let u = unfolded_words a.rows.now a.roots.now (take a.len a.tokens.now) c.requires.roots_value.0 in words_there a.rows.now a.roots.now a.table.now u.0 _ u.1 c.list_in.result _ _ c.list_in.ensures c.in_ok-listed.listed c.in_ok-listed.was

pub slice_bounds-finish-end-2 : goal.slice_bounds-finish-end-2
slice_bounds-finish-end-2 c = let a = c.args in let u = unfolded_words a.rows.now a.roots.now (take a.len a.tokens.now) c.requires.roots_value.0 in words_long a.rows.now a.roots.now a.table.now u.0 _ u.1 c.list_in.result _ _ c.list_in.ensures c.in_ok-listed.listed c.in_ok-listed.was

pub slice_bounds-finish-end-3 : goal.slice_bounds-finish-end-3
slice_bounds-finish-end-3 c = let a = c.args in let u = unfolded_words a.rows.now a.roots.now (take a.len a.tokens.now) c.requires.roots_value.0 in places_there a.rows.now a.roots.now a.table.now u.0 _ u.1 c.list_in.result _ _ c.list_in.ensures c.in_ok-listed.listed c.in_ok-listed.was

pub slice_bounds-finish-end-4 : goal.slice_bounds-finish-end-4
slice_bounds-finish-end-4 c = let a = c.args in let u = unfolded_words a.rows.now a.roots.now (take a.len a.tokens.now) c.requires.roots_value.0 in places_long a.rows.now a.roots.now a.table.now u.0 _ u.1 c.list_in.result _ _ c.list_in.ensures c.in_ok-listed.listed c.in_ok-listed.was

pub finish-requires : goal.finish-requires
finish-requires c = let a = c.args in
    let u = unfolded_words a.rows.now a.roots.now (take a.len a.tokens.now) c.requires.roots_value.0 in
    let long = length-take-le a.len a.tokens.now c.requires.roots_value.1 in
    let r = finish_room a.rows.now a.roots.now a.table.now u.0 _ u.1 c.list_in.result _ _ c.list_in.ensures c.in_ok-listed.listed c.in_ok-listed.was in
    record {
      for_settled = omega (arith, r.0, long, c.requires.lent.for_classes, c.list_in.auto.classes);
      for_starts = omega (arith, r.0, long, c.requires.lent.for_next, c.list_in.auto.next);
      for_tree = omega (arith, r.0, long, c.requires.len_in_bounds.0, c.list_in.auto.facts);
      for_taken = omega (arith, r.1, long, c.requires.lent.for_uses, c.list_in.auto.uses);
      for_waiting = omega (arith, r.1, long, c.requires.lent.for_marks, c.list_in.auto.heads);
      for_links = c.requires.len_in_bounds.1;
    }

pub returns-in-Err-Refused : goal.returns-in-Err-Refused
returns-in-Err-Refused c =
    let a = c.args in
    let u = unfolded_words a.rows.now a.roots.now (take a.len a.tokens.now) c.requires.roots_value.0 in
    let l = c.in_ok-listed.listed in
    let there = finish_there a.rows.now a.roots.now a.table.now u.0 _ u.1 c.list_in.result _ _ c.list_in.ensures l c.in_ok-listed.was in
    let count = finish_counts a.rows.now a.roots.now a.table.now u.0 _ u.1 c.list_in.result _ _ c.list_in.ensures l c.in_ok-listed.was in
    let e : c.finish.result ≡ Err (finish_error.Refused c.in-Err-Refused.refusal) = search rules in
    let h = ends_so a.rows.now a.roots.now a.table.now u.0 _ u.1 c.list_in.result _ _ c.list_in.ensures l c.in_ok-listed.was _ _
    (ends_refused (take l.words c.list_in.new.tokens) (length a.roots.now) (take l.divisors c.list_in.new.places) a.table.now l.made there count _ _ c.finish.ensures _ e) in
    search rules

pub unreachable-requires : goal.unreachable-requires
unreachable-requires c =
    let a = c.args in
    let u = unfolded_words a.rows.now a.roots.now (take a.len a.tokens.now) c.requires.roots_value.0 in
    let l = c.in_ok-listed.listed in
    let there = finish_there a.rows.now a.roots.now a.table.now u.0 _ u.1 c.list_in.result _ _ c.list_in.ensures l c.in_ok-listed.was in
    let count = finish_counts a.rows.now a.roots.now a.table.now u.0 _ u.1 c.list_in.result _ _ c.list_in.ensures l c.in_ok-listed.was in
    let e : c.finish.result ≡ Err finish_error.Broken = search rules in
    never_broken (take l.words c.list_in.new.tokens) (length a.roots.now) (take l.divisors c.list_in.new.places) a.table.now l.made there count _ _ c.finish.ensures e

pub unreachable-requires-in-Err-NoRoom : goal.unreachable-requires-in-Err-NoRoom
unreachable-requires-in-Err-NoRoom c =
    let a = c.args in
    let u = unfolded_words a.rows.now a.roots.now (take a.len a.tokens.now) c.requires.roots_value.0 in
    let l = c.in_ok-listed.listed in
    let there = finish_there a.rows.now a.roots.now a.table.now u.0 _ u.1 c.list_in.result _ _ c.list_in.ensures l c.in_ok-listed.was in
    let count = finish_counts a.rows.now a.roots.now a.table.now u.0 _ u.1 c.list_in.result _ _ c.list_in.ensures l c.in_ok-listed.was in
    let e : c.finish.result ≡ Err finish_error.NoRoom = search rules in
    never_roomless (take l.words c.list_in.new.tokens) (length a.roots.now) (take l.divisors c.list_in.new.places) a.table.now l.made there count _ _ c.finish.ensures e

pub returns : goal.returns
returns c =
    let a = c.args in
    let u = unfolded_words a.rows.now a.roots.now (take a.len a.tokens.now) c.requires.roots_value.0 in
    let l = c.in_ok-listed.listed in
    let there = finish_there a.rows.now a.roots.now a.table.now u.0 _ u.1 c.list_in.result _ _ c.list_in.ensures l c.in_ok-listed.was in
    let count = finish_counts a.rows.now a.roots.now a.table.now u.0 _ u.1 c.list_in.result _ _ c.list_in.ensures l c.in_ok-listed.was in
    ends_so a.rows.now a.roots.now a.table.now u.0 _ u.1 c.list_in.result _ _ c.list_in.ensures l c.in_ok-listed.was _ _
    (ends_in_rows (take l.words c.list_in.new.tokens) (length a.roots.now) (take l.divisors c.list_in.new.places) a.table.now l.made there count _ _ c.finish.ensures _ c.in-Ok.is)
