-- A symbol of the list is named by the first row with its name (AnswerRows): the test of a row and of a word. Assumes nothing.
use Rattle.std.specs.Prelude.{ℕ, ◌/◌, ◌%◌, Bool, true, false, not, ◌&&◌, cond, List, [], ◌∷◌, pos, get_or, eqb}
use Rattle.spec_tree.specs.Bytes.{eq_bytes}
use Rattle.spec_tree.specs.Rows.{Row, row_sym, row_const, row_op}
use Rattle.spec_tree.specs.Tokens.{number_in, name_in, kind_of, below_of}

unfoldable pub is_symbol_row : Row → Bool
is_symbol_row (row_sym s) = true
is_symbol_row (row_const c) = false
is_symbol_row (row_op k ns) = false

unfoldable pub has_name : Row → List ℕ → Bool
unfolding eq_bytes
has_name (row_sym n) s = eq_bytes n s
has_name (row_const c) s = false
has_name (row_op k ns) s = false

unfoldable pub none_named : List Row → List ℕ → Bool
unfolding has_name
none_named [] s = true
none_named (r ∷ l) s = not (has_name r s) && none_named l s

-- row n is a symbol's, and no row before it has its name
unfoldable pub first_row : List Row → ℕ → Bool
unfolding is_symbol_row number_in name_in
first_row rows n = is_symbol_row (get_or rows n (row_const (pos 0))) && eqb (number_in rows (name_in rows n)) n

-- a word that is a symbol of the list names it by its first row
unfoldable pub first_word : List Row → ℕ → Bool
unfolding first_row
first_word rows w = cond (eqb (kind_of w) 0 && eqb (below_of w % 3) 0) (first_row rows (below_of w / 3)) true
