-- `node_rows::records::fits_a_sheet` meets its contract: no record, a bound, and the bytes themselves. Assumes nothing.
use mathlib.Core.Path.{sym, ◌∙◌}
use borrow.Author.Tests.{le-leb, le-ltb}
use native.Mathlib.Omega.{arith}
use Rattle.node_rows.proofs.records.RecordBytes.{no_record, whole_sheet}
use Rattle.node_rows.proofs.records.ShortSheets.{roots_few, short_sheet}
use Rattle.node_rows.proofs.rows.Shaped.{laid_shaped}
use Rattle.node_rows.proofs.records.fits_a_sheet.Goals as goal

pub field_count-requires : goal.field_count-requires
field_count-requires c = laid_shaped c.args.rows.now c.args.roots.now c.requires

pub returns-then-n-field_count-le64833 : goal.returns-then-n-field_count-le64833
returns-then-n-field_count-le64833 c = le-leb _ 64833 c.if-n-field_count-le64833.true ∙ short_sheet c.args.rows.now c.args.roots.now c.requires (omega (arith, c.if-n-gt0.true)) (omega (arith, c.field_count.ensures.0, c.if-n-field_count-le64833.true))

pub rows_bytes-requires : goal.rows_bytes-requires
rows_bytes-requires c = laid_shaped c.args.rows.now c.args.roots.now c.requires

pub roots_bytes-requires : goal.roots_bytes-requires
roots_bytes-requires c = roots_few c.args.rows.now c.args.roots.now c.requires

pub returns-else-n-field_count-le64833 : goal.returns-else-n-field_count-le64833
returns-else-n-field_count-le64833 c = whole_sheet c.args.rows.now c.args.roots.now c.rows_bytes.result c.roots_bytes.result (omega (arith, c.if-n-gt0.true)) c.rows_bytes.ensures.0 c.roots_bytes.ensures.0

pub returns-else-n-gt0 : goal.returns-else-n-gt0
returns-else-n-gt0 c = le-ltb 0 _ c.if-n-gt0.false ∙ sym (no_record c.args.rows.now c.args.roots.now (omega (arith, c.if-n-gt0.false)))
