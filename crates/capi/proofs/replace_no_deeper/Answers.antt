-- `capi::replace_no_deeper` meets its contract. Assumes nothing.
use mathlib.Core.Path.{sym, ◌∙◌}
use Rattle.capi.proofs.DepthEnds.{call_deeper, call_no_deeper}
use Rattle.capi.proofs.replace_no_deeper.Goals as goal

pub returns : goal.returns
returns c = call_no_deeper c.args.tokens.now c.args.target.now _ _ _ (sym c.both_no_deeper.ensures ∙ c.if-not-both_no_deeper.false) c.replace_or_leave.ensures

pub returns-then-not-both_no_deeper : goal.returns-then-not-both_no_deeper
returns-then-not-both_no_deeper c = call_deeper c.args.tokens.now c.args.target.now _ _ _ (sym c.both_no_deeper.ensures ∙ c.if-not-both_no_deeper.true)
