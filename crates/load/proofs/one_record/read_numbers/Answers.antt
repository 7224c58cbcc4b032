-- `load::one_record::read_numbers` meets its contract. Assumes nothing.
use mathlib.Core.List.{[]}
use native.Mathlib.Omega.{arith}
use Rattle.spec_sheet.specs.Sheet.{fields_from}
use Rattle.load.proofs.one_record.Fronts.{back_long}
use Rattle.load.proofs.one_record.ByKind.{numbers_bad, few_numbers, numbers_fit, numbers_late, root_past, root_read, row_past, row_read}
use Rattle.load.proofs.one_record.read_numbers.Goals as goal

pub returns-in_default : goal.returns-in_default
returns-in_default c = numbers_bad c.args.so_far.rows c.args.so_far.roots c.args.kind (fields_from [] c.args.s.now) c.requires.1.1.0 _ c.write_numbers.new.out c.args.row.now _ c.write_numbers.result c.write_numbers.ensures c.in_default.is (back_long c.args.row.now c.clear.new.row c.clear.ensures c.requires.0 c.write_numbers.new.out c.write_numbers.auto.out)

pub overflow_add-n : goal.overflow_add-n
overflow_add-n c = omega (arith, few_numbers c.args.so_far.rows c.args.so_far.roots c.args.kind (fields_from [] c.args.s.now) c.requires.1.1.0 c.requires.1.0 c.requires.1.1.1 c.args.row.now c.clear.new.row c.clear.ensures c.requires.0 c.write_numbers.new.out c.write_numbers.result c.in-Some.n c.write_numbers.ensures c.in-Some.is c.write_numbers.auto.out)

pub slice_bounds-all_below-end : goal.slice_bounds-all_below-end
slice_bounds-all_below-end c = omega (arith, numbers_fit c.args.so_far.rows c.args.so_far.roots c.args.kind (fields_from [] c.args.s.now) c.requires.1.1.0 c.requires.1.0 c.requires.1.1.1 c.args.row.now c.clear.new.row c.clear.ensures c.requires.0 c.write_numbers.new.out c.write_numbers.result c.in-Some.n c.write_numbers.ensures c.in-Some.is c.write_numbers.auto.out)

pub returns-then-not-all_below : goal.returns-then-not-all_below
returns-then-not-all_below c = numbers_late c.args.so_far.rows c.args.so_far.roots c.args.kind (fields_from [] c.args.s.now) c.requires.1.1.0 c.requires.1.0 c.requires.1.1.1 c.args.row.now c.clear.new.row c.clear.ensures c.requires.0 c.write_numbers.new.out c.write_numbers.result c.in-Some.n c.write_numbers.ensures c.in-Some.is c.write_numbers.auto.out c.all_below.result c.all_below.ensures (c.if-not-all_below.true)

pub returns-then-so_far-ge-ROOTS : goal.returns-then-so_far-ge-ROOTS
returns-then-so_far-ge-ROOTS c = root_past c.args.so_far.rows c.args.so_far.roots c.args.kind (fields_from [] c.args.s.now) c.requires.1.1.0 c.requires.1.0 c.requires.1.1.1 c.args.row.now c.clear.new.row c.clear.ensures c.requires.0 c.write_numbers.new.out c.write_numbers.result c.in-Some.n c.write_numbers.ensures c.in-Some.is c.write_numbers.auto.out c.all_below.result c.all_below.ensures (c.if-not-all_below.false) c.if-kind-eq-ROOT.true c.if-so_far-ge-ROOTS.true

pub returns-then-kind-eq-ROOT : goal.returns-then-kind-eq-ROOT
returns-then-kind-eq-ROOT c = root_read c.args.so_far.rows c.args.so_far.roots c.args.kind (fields_from [] c.args.s.now) c.requires.1.1.0 c.requires.1.0 c.requires.1.1.1 c.args.row.now c.clear.new.row c.clear.ensures c.requires.0 c.write_numbers.new.out c.write_numbers.result c.in-Some.n c.write_numbers.ensures c.in-Some.is c.write_numbers.auto.out c.all_below.result c.all_below.ensures (c.if-not-all_below.false) c.if-kind-eq-ROOT.true c.if-so_far-ge-ROOTS.false

pub returns-then-so_far-ge-ROWS : goal.returns-then-so_far-ge-ROWS
returns-then-so_far-ge-ROWS c = row_past c.args.so_far.rows c.args.so_far.roots c.args.kind (fields_from [] c.args.s.now) c.requires.1.1.0 c.requires.1.0 c.requires.1.1.1 c.args.row.now c.clear.new.row c.clear.ensures c.requires.0 c.write_numbers.new.out c.write_numbers.result c.in-Some.n c.write_numbers.ensures c.in-Some.is c.write_numbers.auto.out c.all_below.result c.all_below.ensures (c.if-not-all_below.false) c.if-kind-eq-ROOT.false c.if-so_far-ge-ROWS.true

pub returns : goal.returns
returns c = row_read c.args.so_far.rows c.args.so_far.roots c.args.kind (fields_from [] c.args.s.now) c.requires.1.1.0 c.requires.1.0 c.requires.1.1.1 c.args.row.now c.clear.new.row c.clear.ensures c.requires.0 c.write_numbers.new.out c.write_numbers.result c.in-Some.n c.write_numbers.ensures c.in-Some.is c.write_numbers.auto.out c.all_below.result c.all_below.ensures (c.if-not-all_below.false) c.if-kind-eq-ROOT.false c.if-so_far-ge-ROWS.false _ c.put_operation.ensures
