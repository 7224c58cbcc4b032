-- `load::recordlist::read_one` meets its contract. Assumes nothing.
use native.Mathlib.Omega.{arith}
use Rattle.load.proofs.recordlist.Stepping.{row_end, root_inside, root_end}
use mathlib.Core.Path.{ap, ◌∙◌}
use Rattle.std.specs.Prelude.{Ok}
use Rattle.load.specs.declared.one_record.Added.{Added}
use Rattle.load.specs.one_record.Reading.{told}
use Rattle.load.proofs.recordlist.read_one.Goals as goal

pub bounds-list-so_far : goal.bounds-list-so_far
bounds-list-so_far c = let z = root_inside c.args.s.now c.args.so_far.rows c.args.so_far.roots c.args.table.now c.args.list.now _ (told c.read_record.result) c.requires.0 c.requires.2 c.read_record.ensures c.read_record.auto.row _ (ap told c.in_ok-read_record.was ∙ ap (λ (a : Added). told (Ok a)) c.in-Root.is) in omega (arith, c.requires.1)

pub returns-in-Row : goal.returns-in-Row
returns-in-Row c = row_end c.args.s.now c.args.so_far.rows c.args.so_far.roots c.args.table.now c.args.list.now _ (told c.read_record.result) c.requires.0 c.requires.2 c.read_record.ensures c.read_record.auto.row (ap told c.in_ok-read_record.was ∙ ap (λ (a : Added). told (Ok a)) c.in-Row.is)

pub returns-in-Root : goal.returns-in-Root
returns-in-Root c = root_end c.args.s.now c.args.so_far.rows c.args.so_far.roots c.args.table.now c.args.list.now _ (told c.read_record.result) c.requires.0 c.requires.2 c.read_record.ensures c.read_record.auto.row _ (ap told c.in_ok-read_record.was ∙ ap (λ (a : Added). told (Ok a)) c.in-Root.is)
