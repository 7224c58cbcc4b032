-- `load::one_record::write_last` meets its contract. Assumes nothing.
use mathlib.Core.Path.{refl, sym, ◌∙◌}
use mathlib.Core.List.{[]}
use Rattle.std.proofs.Common.{rules}
use Rattle.load.proofs.one_record.Writing.{first_none, last_one}
use Rattle.load.proofs.one_record.write_last.Goals as goal

pub returns-in_err-number : goal.returns-in_err-number
returns-in_err-number c = let e = first_none c.args.s.now [] c.args.out.now c.args.out.now (sym c.in_err-number.was ∙ c.node_number.ensures) refl in search rules

pub returns : goal.returns
returns c = last_one c.args.s.now c.args.out.now c.in_ok-number.number (sym c.in_ok-number.was ∙ c.node_number.ensures) c.requires
