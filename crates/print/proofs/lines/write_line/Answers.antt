-- `print::lines::write_line` meets its contract. Assumes nothing.
use Rattle.print.proofs.lines.LineLaws.{told}
use Rattle.print.proofs.lines.write_line.Goals as goal

pub returns : goal.returns
returns c = told c.args.rows.now c.args.answer.now c.args.at c.requires.at_in_bounds.1 c.args.dry
    c.args.out.now _ _ c.put_opening-start.ensures _ _ _ c.expression-p.ensures _ _ c.put_closing-end.ensures
