-- `fusion::tables::put` meets its contract: the first i words are put. Assumes nothing.
use native.Mathlib.Omega.{arith}
use mathlib.Core.Path.{sym}
use Rattle.fusion.proofs.tables.Laws.{overlay_past}
use Rattle.fusion.proofs.tables.Putting.{put_starts, put_turns, words_put}
use Rattle.fusion.proofs.tables.put.Goals as goal

pub returns-then-at-table : goal.returns-then-at-table
returns-then-at-table c = sym (overlay_past c.args.at c.args.words.now c.args.table.now (omega arith))

pub loop-i-init : goal.loop-i-init
loop-i-init c = put_starts c.args.words.now c.args.table.now c.args.at (omega arith)

pub loop-i-preserved : goal.loop-i-preserved
loop-i-preserved c = put_turns c.args.words.now c.args.table.now c.loop-i.table c.args.at c.loop-i.i c.loop-i.invariant (omega arith) (omega arith)

pub returns : goal.returns
returns c = words_put c.args.words.now c.args.table.now c.loop-i.table c.args.at c.loop-i.i c.loop-i.invariant (omega arith) c.if-at-table.false
