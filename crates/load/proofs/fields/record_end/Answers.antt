-- `load::fields::record_end` meets its contract: no CRLF stands from the record's start to place i. Assumes nothing.
use mathlib.Core.Path.{sym, ◌∙◌}
use native.Mathlib.Omega.{arith}
use Rattle.load.proofs.fields.Ends.{end_past, end_begin, end_next, end_found, end_last}
use Rattle.load.proofs.fields.record_end.Goals as goal

pub returns-then-at-s : goal.returns-then-at-s
returns-then-at-s c = end_past c.args.s.now c.args.at c.if-at-s.true

pub loop-i-init : goal.loop-i-init
loop-i-init c = (omega arith, end_begin c.args.s.now c.args.at c.if-at-s.false)

pub returns-then-ends_at : goal.returns-then-ends_at
returns-then-ends_at c = end_found c.args.s.now c.args.at c.loop-i.i c.loop-i.invariant.1 (omega arith) (sym c.ends_at.ensures ∙ c.if-ends_at.true)

pub loop-i-preserved : goal.loop-i-preserved
loop-i-preserved c = (omega arith, end_next c.args.s.now c.args.at c.loop-i.i c.loop-i.invariant.1 (omega arith) (sym c.ends_at.ensures ∙ c.if-ends_at.false))

pub returns : goal.returns
returns c = end_last c.args.s.now c.args.at c.loop-i.i c.loop-i.invariant.1 (omega arith)
