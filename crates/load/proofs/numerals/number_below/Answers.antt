-- `load::numerals::number_below` meets its contract. Assumes nothing.
use mathlib.Core.Path.{sym, ◌∙◌}
use native.Mathlib.Omega.{arith}
use borrow.Author.Tests.{eqb-true, eqb-false}
use Rattle.load.proofs.numerals.Reading.{number_empty, number_one, number_zero, number_more}
use Rattle.load.proofs.numerals.number_below.Goals as goal
use Rattle.load.proofs.numerals.number_below.Goals.{else-s-gt1-via-then-s-gt1+else-s-eq-ZERO, else-s-gt1-via-else-s-gt1}

pub returns-then-is_empty : goal.returns-then-is_empty
returns-then-is_empty c = rw (number_empty c.args.s.now (eqb-true _ _ (sym c.is_empty.ensures ∙ c.if-is_empty.true)))

pub returns-then-s-eq-ZERO : goal.returns-then-s-eq-ZERO
returns-then-s-eq-ZERO c =
    let some = eqb-false _ _ (sym c.is_empty.ensures ∙ c.if-is_empty.false) in
    rw (number_zero c.args.s.now some (λ e. omega (arith, c.if-s-gt1.true)) c.if-s-eq-ZERO.true)

pub returns : goal.returns
returns c =
    let some = eqb-false _ _ (sym c.is_empty.ensures ∙ c.if-is_empty.false) in
    elim c.else-s-gt1.branch [
      | else-s-gt1-via-then-s-gt1+else-s-eq-ZERO w ↦ rw (number_more c.args.s.now some (λ e. omega (arith, w.if-s-gt1.true)) w.if-s-eq-ZERO.false) c.digits_value.ensures
      | else-s-gt1-via-else-s-gt1 w ↦ rw (number_one c.args.s.now (omega (arith, w.if-s-gt1.false))) c.digits_value.ensures
    ]
