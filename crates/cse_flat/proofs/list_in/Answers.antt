use Rattle.std.proofs.Common.{rules}
use native.Mathlib.Omega.{arith}
use mathlib.Core.Bool.{false}
use lib.ListN.{length}
use Rattle.fmt.specs.checked.Check.{rows_in}
use Rattle.cse_flat.proofs.refined.Listing.{given_so, rounds_refused, vs_long, vs_there, writable, all_listed}
use Rattle.cse_flat.proofs.list_in.Goals as goal

pub returns-in_err-left : goal.returns-in_err-left
returns-in_err-left c = let a = c.args in let g = given_so (rows_in a.rows.now) a.tokens.now a.len false 0 (length a.text.now) c.requires.t (c.requires.len_bound.0, c.requires.len_bound.1, omega arith) c.requires.in_bounds.0 in let e = rounds_refused (rows_in a.rows.now) a.tokens.now a.len false 0 (length a.text.now) g c.extract_in.result _ c.extract_in.ensures _ c.in_err-left.was in search rules

pub slice_bounds-divisors_to_bind-end : goal.slice_bounds-divisors_to_bind-end
slice_bounds-divisors_to_bind-end c = let a = c.args in let g = given_so (rows_in a.rows.now) a.tokens.now a.len false 0 (length a.text.now) c.requires.t (c.requires.len_bound.0, c.requires.len_bound.1, omega arith) c.requires.in_bounds.0 in vs_there (rows_in a.rows.now) a.tokens.now a.len false 0 (length a.text.now) g c.extract_in.result _ c.extract_in.ensures c.in_ok-left.left c.in_ok-left.was

pub slice_bounds-divisors_to_bind-end-2 : goal.slice_bounds-divisors_to_bind-end-2
slice_bounds-divisors_to_bind-end-2 c = let a = c.args in let g = given_so (rows_in a.rows.now) a.tokens.now a.len false 0 (length a.text.now) c.requires.t (c.requires.len_bound.0, c.requires.len_bound.1, omega arith) c.requires.in_bounds.0 in vs_long (rows_in a.rows.now) a.tokens.now a.len false 0 (length a.text.now) g c.extract_in.result _ c.extract_in.ensures c.in_ok-left.left c.in_ok-left.was

pub divisors_to_bind-bound-requires : goal.divisors_to_bind-bound-requires
divisors_to_bind-bound-requires c = let a = c.args in
    let g = given_so (rows_in a.rows.now) a.tokens.now a.len false 0 (length a.text.now) c.requires.t (c.requires.len_bound.0, c.requires.len_bound.1, omega arith) c.requires.in_bounds.0 in
    record { complete = (writable (rows_in a.rows.now) a.tokens.now a.len false 0 (length a.text.now) g c.extract_in.result _ c.extract_in.ensures c.in_ok-left.left c.in_ok-left.was _ c.extract_in.auto.text _ c.requires.in_bounds.1).0; tokens_len_bound = (writable (rows_in a.rows.now) a.tokens.now a.len false 0 (length a.text.now) g c.extract_in.result _ c.extract_in.ensures c.in_ok-left.left c.in_ok-left.was _ c.extract_in.auto.text _ c.requires.in_bounds.1).1 }

pub returns : goal.returns
returns c = let a = c.args in let g = given_so (rows_in a.rows.now) a.tokens.now a.len false 0 (length a.text.now) c.requires.t (c.requires.len_bound.0, c.requires.len_bound.1, omega arith) c.requires.in_bounds.0 in all_listed (rows_in a.rows.now) a.tokens.now a.len false 0 (length a.text.now) g c.extract_in.result _ c.extract_in.ensures c.in_ok-left.left c.in_ok-left.was _ _ c.divisors_to_bind-bound.ensures
