-- `load::one_record::read_symbol` meets its contract. Assumes nothing.
use Rattle.load.proofs.one_record.ByKind.{symbol_long, symbol_bad, symbol_full, symbol_row}
use Rattle.load.proofs.one_record.read_symbol.Goals as goal

pub returns-then-not-copy_bytes : goal.returns-then-not-copy_bytes
returns-then-not-copy_bytes c = symbol_long c.args.s.now c.args.so_far.rows c.args.row.now c.clear.new.row c.clear.ensures c.requires c.copy_bytes.new.out c.copy_bytes.result c.copy_bytes.ensures.0 c.copy_bytes.ensures.1 c.copy_bytes.auto.out (c.if-not-copy_bytes.true)

pub returns-then-not-is_name : goal.returns-then-not-is_name
returns-then-not-is_name c = symbol_bad c.args.s.now c.args.so_far.rows c.args.row.now c.clear.new.row c.clear.ensures c.requires c.copy_bytes.new.out c.copy_bytes.result c.copy_bytes.ensures.0 c.copy_bytes.ensures.1 c.copy_bytes.auto.out (c.if-not-copy_bytes.false) c.is_name.result c.is_name.ensures (c.if-not-is_name.true)

pub returns-then-so_far-ge-ROWS : goal.returns-then-so_far-ge-ROWS
returns-then-so_far-ge-ROWS c = symbol_full c.args.s.now c.args.so_far.rows c.args.row.now c.clear.new.row c.clear.ensures c.requires c.copy_bytes.new.out c.copy_bytes.result c.copy_bytes.ensures.0 c.copy_bytes.ensures.1 c.copy_bytes.auto.out (c.if-not-copy_bytes.false) c.is_name.result c.is_name.ensures (c.if-not-is_name.false) c.if-so_far-ge-ROWS.true

pub returns : goal.returns
returns c = symbol_row c.args.s.now c.args.so_far.rows c.args.row.now c.clear.new.row c.clear.ensures c.requires c.copy_bytes.new.out c.copy_bytes.result c.copy_bytes.ensures.0 c.copy_bytes.ensures.1 c.copy_bytes.auto.out (c.if-not-copy_bytes.false) c.is_name.result c.is_name.ensures (c.if-not-is_name.false) c.if-so_far-ge-ROWS.false _ c.put_head.ensures
