-- `node_rows::fields::zero_from` meets its contract: the words from `end` on, or those up to the fifth and the others. Assumes nothing.
use native.Mathlib.Omega.{arith}
use mathlib.Core.Path.{sym, ◌∙◌}
use Rattle.node_rows.proofs.fields.Zeros.{zero_split}
use Rattle.node_rows.proofs.fields.zero_from.Goals as goal

pub returns-then-all_zero : goal.returns-then-all_zero
returns-then-all_zero c = rw (zero_split c.args.row.now c.args.end c.requires.row_len (omega arith), sym c.all_zero-2.ensures ∙ c.if-all_zero.true) c.all_zero-then-all_zero.ensures

pub returns-else-all_zero : goal.returns-else-all_zero
returns-else-all_zero c = rw (zero_split c.args.row.now c.args.end c.requires.row_len (omega arith), sym c.all_zero-2.ensures ∙ c.if-all_zero.false) c.if-all_zero.false
