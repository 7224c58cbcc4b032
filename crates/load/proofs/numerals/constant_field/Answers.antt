-- `load::numerals::constant_field` meets its contract. Assumes nothing.
use mathlib.Core.Path.{sym, ◌∙◌}
use mathlib.Core.Option.{some}
use lib.IntN.{pos}
use borrow.Author.Tests.{eqb-true, eqb-false}
use Rattle.std.proofs.Common.{rules}
use Rattle.spec_sheet.specs.Sheet.{number}
use Rattle.node_rows.proofs.names.Leaves.{rest}
use Rattle.load.proofs.numerals.Reading.{read_none, read_past, read_pos, constant_empty, constant_minus, constant_plain}
use Rattle.load.proofs.numerals.constant_field.Goals as goal

pub returns-then-is_empty : goal.returns-then-is_empty
returns-then-is_empty c = rw (constant_empty c.args.s.now (eqb-true _ _ (sym c.is_empty.ensures ∙ c.if-is_empty.true)))

pub returns-then-s-eq-MINUS : goal.returns-then-s-eq-MINUS
returns-then-s-eq-MINUS c = rw (constant_minus c.args.s.now (eqb-false _ _ (sym c.is_empty.ensures ∙ c.if-is_empty.false)) c.if-s-eq-MINUS.true, ← rest 1 c.args.s.now) c.negative.ensures

pub returns-in_err-size : goal.returns-in_err-size
returns-in_err-size c =
    let plain = constant_plain c.args.s.now (eqb-false _ _ (sym c.is_empty.ensures ∙ c.if-is_empty.false)) c.if-s-eq-MINUS.false in
    let e = read_none (number c.args.s.now) (sym c.in_err-size.was ∙ c.number_below.ensures) (λ n. some (pos n)) in
    rw plain (search rules)

pub returns-then-size-ge-LIMIT : goal.returns-then-size-ge-LIMIT
returns-then-size-ge-LIMIT c = rw (constant_plain c.args.s.now (eqb-false _ _ (sym c.is_empty.ensures ∙ c.if-is_empty.false)) c.if-s-eq-MINUS.false) (read_past (number c.args.s.now) c.in_ok-size.size (sym c.in_ok-size.was ∙ c.number_below.ensures) c.if-size-ge-LIMIT.true (λ n. some (pos n)))

pub returns : goal.returns
returns c = rw (constant_plain c.args.s.now (eqb-false _ _ (sym c.is_empty.ensures ∙ c.if-is_empty.false)) c.if-s-eq-MINUS.false) (read_pos (number c.args.s.now) c.in_ok-size.size (sym c.in_ok-size.was ∙ c.number_below.ensures) c.if-size-ge-LIMIT.false)
