-- `csescoped::sheet::printed` meets its contract. Assumes nothing.
use Rattle.std.proofs.Common.{sym, ◌∙◌, ap, rules}
use Rattle.print.specs.Printing.{told}
use Rattle.csescoped.proofs.sheet.Steps.{text_printed, print_refused}
use Rattle.csescoped.proofs.sheet.printed.Goals as goal

pub returns-in_err-print : goal.returns-in_err-print
returns-in_err-print c =
    let e = print_refused c.args.rows.now c.args.answer.now c.args.out.now _ c.print.ensures.1 _ (sym (ap told c.in_err-print.was) ∙ c.print.ensures.0) in
    search rules

pub returns : goal.returns
returns c = text_printed c.args.rows.now c.args.answer.now c.args.out.now _ c.print.ensures.1 _ (sym (ap told c.in_ok-print.was) ∙ c.print.ensures.0)
