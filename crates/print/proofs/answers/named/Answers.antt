-- `print::answers::named` meets its contract. Assumes nothing.
use Rattle.std.proofs.Common.{◌+◌, ◌*◌, ℕ, List, get_or, min, refl, sym, ◌∙◌, ap}
use Rattle.spec_tree.specs.Bytes.{eq_bytes}
use Rattle.words.proofs.tokens.Comparing.{eq_bytes_is}
use Rattle.laws.proofs.answer.RowFirst.{other_row, named_so}
use Rattle.print.proofs.answers.Lists.{both_zero, not_both_zero}
use Rattle.print.proofs.answers.named.Goals as goal

pub returns-then-is_symbol : goal.returns-then-is_symbol
returns-then-is_symbol c =
    let ws = c.args.rows.now in
    let name = c.args.name.now in
    let z = both_zero _ _ c.if-is_symbol.ensures in
    let count = min (get_or ws (c.args.row * 35 + 2) 0) 32 in
    c.eq.ensures
    ∙ (eq_bytes_is _ _ ∙ (ap (λ (s : List ℕ). eq_bytes s name) c.fields.ensures ∙ named_so ws c.args.row name c.requires z.0 z.1 count count refl refl))

pub returns-else-is_symbol : goal.returns-else-is_symbol
returns-else-is_symbol c = c.if-is_symbol.false ∙ sym (other_row c.args.rows.now c.args.row c.requires c.args.name.now (not_both_zero _ _ c.if-is_symbol.ensures)).1
