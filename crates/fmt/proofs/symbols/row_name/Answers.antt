-- `fmt::symbols::row_name` meets its contract. Assumes nothing.
use Rattle.std.proofs.Common.{sym, arith}
use Rattle.fmt.proofs.symbols.NameLaws.{name_past, no_name, name_held}
use Rattle.fmt.proofs.symbols.row_name.Goals as goal
use Rattle.fmt.proofs.symbols.row_name.Goals.{then-rows-at-ne-SYM-via-then-rows-at-ne-SYM, then-rows-at-ne-SYM-via-else-rows-at-ne-SYM+then-rows-at-ne0}

pub returns-then-n-rows : goal.returns-then-n-rows
returns-then-n-rows c = sym (name_past c.args.rows.now c.args.n c.if-n-rows.true)

pub returns-then-rows-at-ne-SYM : goal.returns-then-rows-at-ne-SYM
returns-then-rows-at-ne-SYM c =
    sym (no_name c.args.rows.now c.args.n c.if-n-rows.false
    (elim c.then-rows-at-ne-SYM.branch [
      | then-rows-at-ne-SYM-via-then-rows-at-ne-SYM w ↦ omega (arith, w.if-rows-at-ne-SYM.true)
      | then-rows-at-ne-SYM-via-else-rows-at-ne-SYM+then-rows-at-ne0 w ↦ omega (arith, w.if-rows-at-ne0.true)
    ]))

pub returns : goal.returns
returns c =
    name_held c.args.rows.now c.args.n c.if-n-rows.false (omega (arith, c.if-rows-at-ne-SYM.false, c.if-rows-at-ne0.false)) _ c.min-count.ensures
