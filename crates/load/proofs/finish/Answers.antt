-- `load::finish` meets its contract. Assumes nothing.
use mathlib.Core.Path.{sym, ap, ◌∙◌}
use Rattle.node_rows.specs.rows.Check.{checked}
use Rattle.load.proofs.Finishing.{laid_true, laid_false, finish_six, finish_copied}
use Rattle.load.proofs.finish.Goals as goal

pub returns-in_default : goal.returns-in_default
returns-in_default c = finish_six c.args.table.now c.args.list.now c.args.count c.args.rows.now c.args.roots.now (laid_false c.args.table.now c.args.list.now (sym (ap checked c.in_default.is) ∙ c.check_domain.ensures))

pub returns : goal.returns
returns c = finish_copied c.args.table.now c.args.list.now c.args.count c.args.rows.now c.args.roots.now _ _ (laid_true c.args.table.now c.args.list.now _ (sym (ap checked c.in-Some.is) ∙ c.check_domain.ensures)) c.copy.ensures c.copy-2.ensures
