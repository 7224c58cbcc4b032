-- `node_rows::records::field_count` meets its contract: the sum and what the rows still to come have are the whole. Assumes nothing.
use native.Mathlib.Omega.{arith}
use native.Mathlib.Numerals.{add-one}
use Rattle.node_rows.proofs.records.ShortSheets.{fields_from, fields_end, field_few}
use Rattle.node_rows.proofs.records.field_count.Goals as goal

pub loop-i-preserved : goal.loop-i-preserved
loop-i-preserved c = let h = c.loop-i-test.true in
    let f = fields_from _ c.args.rows.now c.loop-i.i h in
    (omega (arith, c.loop-i.invariant.0, field_few c.requires c.loop-i.i h), rw add-one (omega (arith, c.loop-i.invariant.1, f)))

pub returns : goal.returns
returns c = (omega (arith, c.loop-i.invariant.1, fields_end _ c.loop-i.i c.args.rows.now c.loop-i-test.false), omega (arith, c.loop-i.invariant.0, c.requires.few_rows))
