-- `capi::text_no_deeper` meets its contract. Assumes nothing.
use mathlib.Core.Path.{sym, ◌∙◌}
use Rattle.spec_cse.specs.AnswerRows.{no_deeper}
use Rattle.capi.proofs.DepthEnds.{text_deeper, text_no_deeper}
use Rattle.capi.proofs.text_no_deeper.Goals as goal

pub returns-then-not-no_deeper : goal.returns-then-not-no_deeper
returns-then-not-no_deeper c = text_deeper (no_deeper c.args.tokens.now) _ _ (sym c.no_deeper.ensures ∙ c.if-not-no_deeper.true)

pub returns : goal.returns
returns c = text_no_deeper (no_deeper c.args.tokens.now) _ _ (sym c.no_deeper.ensures ∙ c.if-not-no_deeper.false) c.write_tree.ensures
