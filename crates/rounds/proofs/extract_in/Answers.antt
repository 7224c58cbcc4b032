-- `rounds::extract_in` meets its contract. Assumes nothing.
use native.Mathlib.Omega.{arith}
use mathlib.Core.Path.{refl}
use Rattle.fmt.specs.checked.Check.{rows_in}
use Rattle.rounds.proofs.Lending.{lent_fewer}
use Rattle.rounds.proofs.Ending.{loop_starts, few_made, ready, held, Ends, turn_next, turn_last, turn_refused}
use borrow.Author.Rules.{rules}
use Rattle.std.specs.Prelude.{Err}
use Rattle.rounds.proofs.extract_in.Goals as goal

pub loop-now-init : goal.loop-now-init
loop-now-init c = (let a = c.args in (loop_starts (rows_in a.rows.now) a.tokens.now a.len a.scoped a.first c.requires.t.0 c.requires.t.1 c.requires.t.2, refl, refl, refl, refl, refl, refl))

pub overflow_add-first : goal.overflow_add-first
overflow_add-first c = (let a = c.args in let i = c.loop-now.invariant in omega (arith, few_made (rows_in a.rows.now) a.tokens.now a.len a.scoped a.first c.requires.t.0 c.requires.t.1 c.requires.t.2 i.0, c.requires.first_bound))

pub one_round-requires : goal.one_round-requires
one_round-requires c = let a = c.args in
    let i = c.loop-now.invariant in
    record { t = ready (rows_in a.rows.now) a.tokens.now a.len a.scoped a.first c.requires.t.0 c.requires.t.1 c.requires.t.2 i.0; name_bound = (omega (arith, few_made (rows_in a.rows.now) a.tokens.now a.len a.scoped a.first c.requires.t.0 c.requires.t.1 c.requires.t.2 i.0, c.requires.first_bound), omega (arith, i.6, c.requires.first_bound)); lent = lent_fewer c.requires.lent i.0.most i.1 i.2 i.3 i.4 i.5 }

pub overflow_add-made : goal.overflow_add-made
overflow_add-made c = (let a = c.args in let i = c.loop-now.invariant in omega (arith, few_made (rows_in a.rows.now) a.tokens.now a.len a.scoped a.first c.requires.t.0 c.requires.t.1 c.requires.t.2 i.0))

pub loop-now-smaller : goal.loop-now-smaller
loop-now-smaller c = (let a = c.args in let i = c.loop-now.invariant in (turn_next (rows_in a.rows.now) a.tokens.now a.len a.scoped a.first c.requires.t.0 c.requires.t.1 c.requires.t.2 i.0 c.one_round.result _ c.one_round.ensures c.in-Some.now (held _ _ _ c.in_ok-now.was c.in-Some.is)).1)

pub loop-now-preserved : goal.loop-now-preserved
loop-now-preserved c = (let a = c.args in let i = c.loop-now.invariant in ((turn_next (rows_in a.rows.now) a.tokens.now a.len a.scoped a.first c.requires.t.0 c.requires.t.1 c.requires.t.2 i.0 c.one_round.result _ c.one_round.ensures c.in-Some.now (held _ _ _ c.in_ok-now.was c.in-Some.is)).0, omega (arith, c.one_round.auto, i.1), omega (arith, c.one_round.auto, i.2), omega (arith, c.one_round.auto, i.3), omega (arith, c.one_round.auto, i.4), omega (arith, c.one_round.auto, i.5), omega (arith, c.one_round.auto, i.6)))

pub returns-in_err-now : goal.returns-in_err-now
returns-in_err-now c =
    let a = c.args in
    let i = c.loop-now.invariant in
    let t : Ends (rows_in a.rows.now) a.tokens.now a.len a.scoped a.first (Err c.in_err-now.field-0.0) c.one_round.new.tokens =
    turn_refused (rows_in a.rows.now) a.tokens.now a.len a.scoped a.first c.requires.t.0 c.requires.t.1 c.requires.t.2 i.0 c.one_round.result _ c.one_round.ensures c.in_err-now.field-0.0 c.in_err-now.was in
    search rules

pub returns : goal.returns
returns c = let a = c.args in let i = c.loop-now.invariant in turn_last (rows_in a.rows.now) a.tokens.now a.len a.scoped a.first c.requires.t.0 c.requires.t.1 c.requires.t.2 i.0 c.one_round.result _ c.one_round.ensures (held _ _ _ c.in_ok-now.was c.in_default.is)
