-- A symbol's text by its code, with the names of the list from its node rows (Tokens, Layout). Assumes nothing.
use Rattle.std.specs.Prelude.{ℕ, ◌/◌, ◌%◌, List, length}
use Rattle.spec_tree.specs.Rows.{Row}
use Rattle.spec_tree.specs.Layout.{row_width, rows_of}
use Rattle.spec_tree.specs.Tokens.{name_in, name_by}
use Rattle.spec_tree.specs.text.Text.{name_text}

-- the rows that the words are
abbrev pub rows_in : List ℕ → List Row
rows_in ws = rows_of (length ws / row_width) ws

-- the name of the list's symbol by its row's number
unfoldable pub row_name : List ℕ → ℕ → List ℕ
unfolding name_in
row_name ws n = name_in (rows_in ws) n

-- a symbol's code is three times its number and its class: 0 for one of the list, 1 for `__xN`, 2 for `__mN`
unfoldable pub symbol_text : List ℕ → ℕ → List ℕ
unfolding row_name name_by name_text
symbol_text ws code = name_text (name_by (row_name ws) (code % 3) (code / 3))
