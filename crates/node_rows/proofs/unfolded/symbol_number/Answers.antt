-- `node_rows::unfolded::symbol_number` meets its contract: a name met before, and a new one. Assumes nothing.
use native.Mathlib.Omega.{arith}
use Rattle.node_rows.proofs.unfolded.RowLaws.{stands}
use Rattle.node_rows.proofs.unfolded.NameLaws.{found}
use Rattle.node_rows.proofs.unfolded.symbol_number.Goals as goal

pub bucket_of-b-requires : goal.bucket_of-b-requires
bucket_of-b-requires c = rw c.fields_of.ensures (stands c.requires.rows_laid c.args.r c.requires.r_bound.0).most

pub returns-then-e-r-clause-value : goal.returns-then-e-r-clause-value
returns-then-e-r-clause-value c = (found c.requires.rows_laid c.args.r _ c.requires.r_bound.0 c.requires.r_bound.1 c.first_named-e.ensures, omega (arith, c.if-e-r.true))

pub returns-clause-value : goal.returns-clause-value
returns-clause-value c = let f = c.first_named-e.ensures in
    let n = found c.requires.rows_laid c.args.r _ c.requires.r_bound.0 c.requires.r_bound.1 f in
    (omega (arith, n, f.earlier, c.if-e-r.false), omega arith)
