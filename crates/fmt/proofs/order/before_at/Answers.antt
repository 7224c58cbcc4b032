-- `fmt::order::before_at` meets its contract. Assumes nothing.
use Rattle.std.proofs.Common.{◌∙◌, ap₂, sym, arith}
use lib.Seq.{length-take-le}
use Rattle.spec_tree.specs.text.Text.{before}
use Rattle.fmt.proofs.order.Ordering.{parts, compared, fits, of_texts}
use Rattle.fmt.proofs.order.before_at.Goals as goal

pub slice_bounds-texts-end : goal.slice_bounds-texts-end
slice_bounds-texts-end c = let a = c.args in
    (parts c.expression-first.ensures.written c.expression-second.ensures.written (fits a.rows.now a.tokens.now a.i a.j _ c.requires.j_in_bounds)).1

pub slice_bounds-texts-end-2 : goal.slice_bounds-texts-end-2
slice_bounds-texts-end-2 c = let a = c.args in
    sym (length-take-le _ _ (parts c.expression-first.ensures.written c.expression-second.ensures.written (fits a.rows.now a.tokens.now a.i a.j _ c.requires.j_in_bounds)).1)

pub split_at-requires : goal.split_at-requires
split_at-requires c = let a = c.args in
    let p = parts c.expression-first.ensures.written c.expression-second.ensures.written (fits a.rows.now a.tokens.now a.i a.j _ c.requires.j_in_bounds) in
    omega (arith, p, length-take-le _ _ p.1)

pub returns : goal.returns
returns c = let a = c.args in
    of_texts a.rows.now a.tokens.now a.i a.j _
    (compared c.expression-first.ensures.written c.expression-second.ensures.written
    (fits a.rows.now a.tokens.now a.i a.j _ c.requires.j_in_bounds) _ (c.first_before.ensures ∙ ap₂ before c.split_at.ensures.front c.split_at.ensures.back))
