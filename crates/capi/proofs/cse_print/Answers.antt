-- `capi::cse_print` meets its contract. Assumes nothing.
use Rattle.std.proofs.Common.{ap}
use Rattle.print.specs.Printing.{told}
use Rattle.capi.specs.Prints.{printed_number, printed_answer}
use Rattle.capi.proofs.Ends.{no_room, is_called}
use Rattle.capi.proofs.PrintEnds.{bytes_printed, print_refused}
use Rattle.capi.proofs.cse_print.Goals as goal

pub returns-then-said-lt1 : goal.returns-then-said-lt1
returns-then-said-lt1 c = no_room 1 _ _ _ c.args.out.now c.args.said.now c.if-said-lt1.true

pub returns-in-Ok : goal.returns-in-Ok
returns-in-Ok c = is_called 1 printed_number printed_answer _ _ c.args.out.now c.args.said.now (told c.print.result) _ _ _ c.if-said-lt1.false c.print.ensures (bytes_printed _ c.args.said.now c.if-said-lt1.false _ (ap told c.in-Ok.is))

pub returns-in-Err : goal.returns-in-Err
returns-in-Err c = rw c.into.ensures (is_called 1 printed_number printed_answer _ _ c.args.out.now c.args.said.now (told c.print.result) _ _ _ c.if-said-lt1.false c.print.ensures (print_refused _ c.args.said.now _ (ap told c.in-Err.is)))
