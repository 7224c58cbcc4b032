-- `load::one_record::read_constant` meets its contract. Assumes nothing.
use mathlib.Core.Path.{sym, ◌∙◌}
use Rattle.load.proofs.one_record.ByKind.{constant_bad, constant_full, constant_row}
use Rattle.load.proofs.one_record.read_constant.Goals as goal

pub returns-in_default : goal.returns-in_default
returns-in_default c = constant_bad c.args.s.now c.args.so_far.rows c.args.row.now (sym c.in_default.is ∙ c.constant_field.ensures)

pub returns-then-so_far-ge-ROWS : goal.returns-then-so_far-ge-ROWS
returns-then-so_far-ge-ROWS c = constant_full c.args.s.now c.args.so_far.rows c.args.row.now c.in-Some.constant.sign c.in-Some.constant.size (sym c.in-Some.is ∙ c.constant_field.ensures) c.if-so_far-ge-ROWS.true

pub returns : goal.returns
returns c = constant_row c.args.s.now c.args.so_far.rows c.args.row.now c.in-Some.constant.sign c.in-Some.constant.size (sym c.in-Some.is ∙ c.constant_field.ensures) c.if-so_far-ge-ROWS.false _ _ c.clear.ensures c.put_head.ensures
