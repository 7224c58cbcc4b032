-- `fusion::switches::is_new` meets its contract. Assumes nothing.
use mathlib.Core.Path.{sym, ◌∙◌, ap}
use mathlib.Core.Bool.{not}
use borrow.Author.Tests.{eq-eqb}
use Rattle.std.proofs.lemmas.Bool.{false≢true}
use Rattle.fusion.proofs.switches.Listed.{in_an_arm, no_switch, last_test}
use Rattle.fusion.proofs.switches.is_new.Goals.{then-marks-p-ne0, else-marks-p-ne0}
use Rattle.fusion.proofs.switches.is_new.Goals as goal

pub returns-then-is_switch : goal.returns-then-is_switch
returns-then-is_switch c = elim c.if-marks-p-ne0.branch [
  | then-marks-p-ne0 w ↦ last_test c.args.tokens.now c.args.marks.now c.args.met.now c.args.p c.requires.outsides.0 c.requires.complete.1 w.if-marks-p-ne0.true (sym c.if-is_switch.true ∙ w.value-is ∙ w.is_switch.ensures) _ c.is_among.ensures
  | else-marks-p-ne0 w ↦ absurd (false≢true (sym (w.value-is ∙ ap not (eq-eqb _ 0 w.if-marks-p-ne0.false)) ∙ c.if-is_switch.true))
]

pub returns-else-is_switch : goal.returns-else-is_switch
returns-else-is_switch c = c.if-is_switch.false ∙ elim c.if-marks-p-ne0.branch [
  | then-marks-p-ne0 w ↦ no_switch c.args.tokens.now c.args.marks.now c.args.met.now c.args.p c.requires.outsides.0 c.requires.complete.1 (sym c.if-is_switch.false ∙ w.value-is ∙ w.is_switch.ensures)
  | else-marks-p-ne0 w ↦ in_an_arm c.args.tokens.now c.args.marks.now c.args.met.now c.args.p c.requires.outsides.0 c.requires.complete.1 w.if-marks-p-ne0.false
]
