use Rattle.std.proofs.Common.{rules}
-- `cse_flat::extract_and_list` meets its contract. Assumes nothing.
use lib.ListN.{length}
use Rattle.fmt.specs.checked.Check.{rows_in}
use Rattle.cse_flat.proofs.refined.Listing.{given_so, rounds_refused, vs_long, vs_there, writable, all_listed}
use Rattle.cse_flat.proofs.extract_and_list.Goals as goal

pub returns-in_err-rounds : goal.returns-in_err-rounds
returns-in_err-rounds c = let a = c.args in let e = rounds_refused (rows_in a.rows.now) a.tokens.now a.len a.scoped a.first (length a.text.now) (given_so (rows_in a.rows.now) a.tokens.now a.len a.scoped a.first (length a.text.now) c.requires.t c.requires.len_bound c.requires.in_bounds.0) c.extract_all.result _ c.extract_all.ensures _ c.in_err-rounds.was in search rules

pub slice_bounds-divisors_to_bind-end : goal.slice_bounds-divisors_to_bind-end
slice_bounds-divisors_to_bind-end c = (let a = c.args in vs_there (rows_in a.rows.now) a.tokens.now a.len a.scoped a.first (length a.text.now) (given_so (rows_in a.rows.now) a.tokens.now a.len a.scoped a.first (length a.text.now) c.requires.t c.requires.len_bound c.requires.in_bounds.0) c.extract_all.result _ c.extract_all.ensures c.in_ok-rounds.rounds c.in_ok-rounds.was)

pub slice_bounds-divisors_to_bind-end-2 : goal.slice_bounds-divisors_to_bind-end-2
slice_bounds-divisors_to_bind-end-2 c = (let a = c.args in vs_long (rows_in a.rows.now) a.tokens.now a.len a.scoped a.first (length a.text.now) (given_so (rows_in a.rows.now) a.tokens.now a.len a.scoped a.first (length a.text.now) c.requires.t c.requires.len_bound c.requires.in_bounds.0) c.extract_all.result _ c.extract_all.ensures c.in_ok-rounds.rounds c.in_ok-rounds.was)

pub divisors_to_bind-divisors-requires : goal.divisors_to_bind-divisors-requires
divisors_to_bind-divisors-requires c = let a = c.args in
    record { complete = (writable (rows_in a.rows.now) a.tokens.now a.len a.scoped a.first (length a.text.now) (given_so (rows_in a.rows.now) a.tokens.now a.len a.scoped a.first (length a.text.now) c.requires.t c.requires.len_bound c.requires.in_bounds.0) c.extract_all.result _ c.extract_all.ensures c.in_ok-rounds.rounds c.in_ok-rounds.was _ c.extract_all.auto.text _ c.requires.in_bounds.1).0; tokens_len_bound = (writable (rows_in a.rows.now) a.tokens.now a.len a.scoped a.first (length a.text.now) (given_so (rows_in a.rows.now) a.tokens.now a.len a.scoped a.first (length a.text.now) c.requires.t c.requires.len_bound c.requires.in_bounds.0) c.extract_all.result _ c.extract_all.ensures c.in_ok-rounds.rounds c.in_ok-rounds.was _ c.extract_all.auto.text _ c.requires.in_bounds.1).1 }

pub returns : goal.returns
returns c = (let a = c.args in all_listed (rows_in a.rows.now) a.tokens.now a.len a.scoped a.first (length a.text.now) (given_so (rows_in a.rows.now) a.tokens.now a.len a.scoped a.first (length a.text.now) c.requires.t c.requires.len_bound c.requires.in_bounds.0) c.extract_all.result _ c.extract_all.ensures c.in_ok-rounds.rounds c.in_ok-rounds.was _ _ c.divisors_to_bind-divisors.ensures)
