-- `load::load_into` meets its contract. Assumes nothing.
use mathlib.Core.Path.{refl, ap}
use native.Mathlib.Omega.{arith}
use Rattle.load.proofs.Finishing.{record_refused, all_read}
use Rattle.std.proofs.Common.{rules}
use Rattle.load.specs.recordlist.Records.{told_records}
use Rattle.load.proofs.load_into.Goals as goal

pub returns : goal.returns
returns c = all_read c.args.sheet.now c.args.rows.now c.args.roots.now c.requires.in_bounds.0 c.requires.in_bounds.1 (λ z. omega (arith, c.requires.in_bounds.2)) c.requires.in_bounds.3 (told_records c.read_records.result) _ _ _ _ _ _ _ _ _ _ (ap told_records c.in_ok-contents.was) c.read_records.ensures refl refl c.finish.ensures

pub returns-in_err-contents : goal.returns-in_err-contents
returns-in_err-contents c = let e = record_refused c.args.sheet.now c.args.rows.now c.args.roots.now c.requires.in_bounds.0 c.requires.in_bounds.1 (λ z. omega (arith, c.requires.in_bounds.2)) c.requires.in_bounds.3 (told_records c.read_records.result) _ _ _ _ (ap told_records c.in_err-contents.was) c.read_records.ensures in search rules
