-- `capi::divisor_no_deeper` meets its contract. Assumes nothing.
use mathlib.Core.Path.{sym, ◌∙◌}
use Rattle.capi.proofs.DepthEnds.{rewrite_deeper, rewrite_no_deeper}
use Rattle.capi.proofs.divisor_no_deeper.Goals as goal

pub returns : goal.returns
returns c = rewrite_no_deeper _ c.args.tokens.now c.args.divisor.now _ _ (sym c.both_no_deeper.ensures ∙ c.if-not-both_no_deeper.false) c.replace_divisor.ensures

pub returns-then-not-both_no_deeper : goal.returns-then-not-both_no_deeper
returns-then-not-both_no_deeper c = rewrite_deeper _ c.args.tokens.now c.args.divisor.now _ _ (sym c.both_no_deeper.ensures ∙ c.if-not-both_no_deeper.true)
