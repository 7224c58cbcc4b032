-- `words::bits::is_inside` meets its contract. Assumes nothing.
use native.Mathlib.Omega.{arith}
use Rattle.words.proofs.bits.BitLaws.{outside_column, outside_word, inside_rest}
use Rattle.words.proofs.bits.is_inside.Goals as goal

pub returns-then-column-ge-COLUMNS : goal.returns-then-column-ge-COLUMNS
returns-then-column-ge-COLUMNS c = let a = c.args in
    outside_column a.words a.row a.column (omega (arith, c.if-column-ge-COLUMNS.true))

pub returns-then-row-words : goal.returns-then-row-words
returns-then-row-words c = let a = c.args in
    outside_word a.words a.row a.column (omega (arith, c.if-column-ge-COLUMNS.false)) (omega (arith, c.if-row-words.true))

pub returns : goal.returns
returns c = let a = c.args in
    inside_rest a.words a.row a.column (omega (arith, c.if-column-ge-COLUMNS.false)) (omega (arith, c.if-row-words.false))
