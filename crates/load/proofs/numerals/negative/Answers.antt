-- `load::numerals::negative` meets its contract. Assumes nothing.
use mathlib.Core.Path.{sym, ◌∙◌}
use Rattle.std.proofs.Common.{rules}
use Rattle.spec_sheet.specs.Sheet.{number, minus}
use Rattle.load.proofs.numerals.Reading.{read_none, read_past, read_minus, read_minus_zero}
use Rattle.load.proofs.numerals.negative.Goals as goal
use Rattle.load.proofs.numerals.negative.Goals.{then-size-eq0-via-then-size-eq0, then-size-eq0-via-else-size-eq0+then-size-ge-LIMIT}

pub returns-in_err-size : goal.returns-in_err-size
returns-in_err-size c = let e = read_none (number c.args.s.now) (sym c.in_err-size.was ∙ c.number_below.ensures) minus in search rules

pub returns-then-size-eq0 : goal.returns-then-size-eq0
returns-then-size-eq0 c = elim c.then-size-eq0.branch [
  | then-size-eq0-via-then-size-eq0 w ↦ read_minus_zero (number c.args.s.now) c.in_ok-size.size (sym c.in_ok-size.was ∙ c.number_below.ensures) w.if-size-eq0.true
  | then-size-eq0-via-else-size-eq0+then-size-ge-LIMIT w ↦ read_past (number c.args.s.now) c.in_ok-size.size (sym c.in_ok-size.was ∙ c.number_below.ensures) w.if-size-ge-LIMIT.true minus
]

pub returns : goal.returns
returns c = read_minus (number c.args.s.now) c.in_ok-size.size (sym c.in_ok-size.was ∙ c.number_below.ensures) c.if-size-ge-LIMIT.false c.if-size-eq0.false
