-- `print::answers::row_first` meets its contract. Assumes nothing.
use Rattle.std.proofs.Common.{◌+◌, ◌*◌, ℕ, List, get_or, min, take, refl, ◌∙◌, ap}
use Rattle.fmt.specs.checked.Check.{rows_in}
use Rattle.laws.specs.answer.First.{none_named}
use Rattle.laws.proofs.answer.RowFirst.{first_past, first_so}
use Rattle.print.proofs.answers.Lists.{both_zero, not_both_zero, first_other}
use Rattle.print.proofs.answers.row_first.Goals as goal

pub returns-then-n-rows : goal.returns-then-n-rows
returns-then-n-rows c = first_past c.args.rows.now c.args.n c.if-n-rows.true

pub returns-then-is_symbol : goal.returns-then-is_symbol
returns-then-is_symbol c =
    let ws = c.args.rows.now in
    let z = both_zero _ _ c.if-is_symbol.ensures in
    let count = min (get_or ws (c.args.n * 35 + 2) 0) 32 in
    c.none_named.ensures
    ∙ (ap (λ (s : List ℕ). none_named (take c.args.n (rows_in ws)) s) c.fields.ensures ∙ first_so ws c.args.n c.if-n-rows.false z.0 z.1 count count refl refl)

pub returns-else-is_symbol : goal.returns-else-is_symbol
returns-else-is_symbol c = c.if-is_symbol.false ∙ first_other c.args.rows.now c.args.n c.if-n-rows.false (not_both_zero _ _ c.if-is_symbol.ensures)
