-- `fusion::scopeneeds::Names::mark_read` meets its contract. Assumes nothing.
use native.Mathlib.Omega.{arith}
use mathlib.Core.Path.{◌∙◌}
use Rattle.fusion.proofs.scopeneeds.Marking.{read_let, read_match, read_other}
use Rattle.fusion.proofs.scopeneeds.Names.mark_read.Goals as goal

pub returns-in-64 : goal.returns-in-64
returns-in-64 c = c.mark_let.ensures ∙ read_let c.args.self.now.first c.args.self.now.lets c.args.self.now.numbers.now c.args.self.now.ends.now c.args.w c.args.row c.args.table.now c.in-64.is

pub returns-in-128 : goal.returns-in-128
returns-in-128 c = c.mark_match.ensures ∙ read_match c.args.self.now.first c.args.self.now.lets c.args.self.now.numbers.now c.args.self.now.ends.now c.args.w c.args.row c.args.table.now (λ e. omega (arith, e, c.in-128.is)) c.in-128.is

pub returns-in_default : goal.returns-in_default
returns-in_default c = read_other c.args.self.now.first c.args.self.now.lets c.args.self.now.numbers.now c.args.self.now.ends.now c.args.w c.args.row c.args.table.now (λ e. omega (arith, e)) (λ e. omega (arith, e))
