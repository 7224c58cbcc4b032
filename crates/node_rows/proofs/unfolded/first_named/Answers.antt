-- `node_rows::unfolded::first_named` meets its contract: any row that is the same as row r is still ahead in the chain. Assumes nothing.
use mathlib.Core.Path.{sym, ◌∙◌}
use Prim.Native.Nat.{◌-◌}
use native.Mathlib.Omega.{arith}
use Rattle.std.proofs.lemmas.Slice.Eq.{slice_eq-Decides}
use Rattle.std.proofs.lemmas.Bool.Decides.{Decides-eqb}
use Rattle.node_rows.proofs.unfolded.RowLaws.{stands}
use Rattle.node_rows.proofs.unfolded.NameLaws.{same_by_name}
use Rattle.node_rows.proofs.unfolded.ChainLaws.{search_found, search_end}
use Rattle.node_rows.proofs.unfolded.first_named.Goals as goal

pub returns-then-eq : goal.returns-then-eq
returns-then-eq c = let i = c.loop-q.q - 1 in
    let here = stands c.requires.rows_laid i (omega (arith, c.loop-q.invariant.inside, c.requires.r_bound.0, c.loop-q-test.true)) in
    let same = (slice_eq-Decides Decides-eqb _ _ _ c.eq.ensures).0 c.if-eq.true in
    search_found c.loop-q.invariant i (omega (arith, c.loop-q-test.true)) (same_by_name here (stands c.requires.rows_laid c.args.r c.requires.r_bound.0) (c.loop-q.invariant.leads i (omega (arith, c.loop-q-test.true))).0.0 c.requires.r_bound.1 (sym c.fields_of.ensures ∙ (same ∙ c.fields_of-name.ensures)))

pub returns : goal.returns
returns c = search_end c.requires.r_bound.1 c.loop-q.invariant (omega (arith, c.loop-q-test.false))
