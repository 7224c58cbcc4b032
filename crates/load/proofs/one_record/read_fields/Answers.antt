-- `load::one_record::read_fields` meets its contract. Assumes nothing.
use native.Mathlib.Omega.{arith}
use Rattle.load.proofs.one_record.Whole.{few_fields, as_symbol, as_constant}
use Rattle.load.proofs.one_record.read_fields.Goals as goal

pub returns-in-0 : goal.returns-in-0
returns-in-0 c = as_symbol c.args.kind c.args.s.now c.requires.1.1 c.args.so_far.rows c.args.so_far.roots c.args.row.now _ _ c.in-0.is c.read_symbol.ensures

pub returns-in-1 : goal.returns-in-1
returns-in-1 c = as_constant c.args.kind c.args.s.now c.requires.1.1 c.args.so_far.rows c.args.so_far.roots c.args.row.now _ _ c.in-1.is c.read_constant.ensures

pub read_numbers-requires : goal.read_numbers-requires
read_numbers-requires c = (c.requires.0, (c.requires.1.0, (omega arith, few_fields c.args.kind c.args.s.now c.requires.1.1)))
