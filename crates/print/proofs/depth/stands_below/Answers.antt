-- `print::depth::stands_below` meets its contract. Assumes nothing.
use Rattle.std.proofs.Common.{◌≡◌, ◌%◌, arith}
use Rattle.laws.proofs.answer.WayLaws.{stands_none, stands_name, stands_let, stands_each, stands_many}
use Rattle.print.proofs.depth.stands_below.Goals as goal

pub returns-in_default : goal.returns-in_default
returns-in_default c = (stands_many c.args.w (omega arith) (λ e. omega arith) (λ e. omega arith) (omega arith), omega arith)

pub returns-in-29 : goal.returns-in-29
returns-in-29 c = let h : c.args.w % 64 ≡ 29 = omega arith in (stands_let c.args.w (omega arith) h, omega arith)

pub returns-in-29-2 : goal.returns-in-29-2
returns-in-29-2 c = (stands_each c.args.w (omega arith), omega arith)

pub returns-in-0 : goal.returns-in-0
returns-in-0 c = (stands_name c.args.w (omega (arith, c.in-0.is)) c.in-0.is, omega arith)

pub returns-in-0-2 : goal.returns-in-0-2
returns-in-0-2 c = (stands_none c.args.w (omega arith), omega arith)
