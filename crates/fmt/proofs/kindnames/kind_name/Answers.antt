-- `fmt::kindnames::kind_name` meets its contract where there is no name; the check finds each name by itself. Assumes nothing.
use Rattle.std.proofs.Common.{arith}
use Rattle.fmt.proofs.kindnames.KindNames.{nameless}
use Rattle.fmt.proofs.kindnames.kind_name.Goals as goal

pub returns-in_default : goal.returns-in_default
returns-in_default c = nameless c.args.kind (λ a b. omega arith)
