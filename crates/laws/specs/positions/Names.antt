-- Which numbers and which names of symbols go together in a list of rows, and words that use such numbers alone (01, "Expressions and facts"). Assumes nothing.
use Rattle.std.specs.Prelude.{ℕ, ◌/◌, ◌%◌, Bool, true, ◌&&◌, cond, List, [], ◌∷◌, eqb}
use Rattle.spec_tree.specs.Bytes.{eq_bytes}
use Rattle.spec_tree.specs.Rows.{Row}
use Rattle.spec_tree.specs.Tokens.{number_in, name_in, kind_of, below_of}

-- a symbol's number: the first row with a name
unfoldable pub is_number : List Row → ℕ → Bool
unfolding number_in name_in
is_number rows n = eqb (number_in rows (name_in rows n)) n

-- a symbol's name: that of the row with its number
unfoldable pub is_listed : List Row → List ℕ → Bool
unfolding number_in name_in eq_bytes
is_listed rows s = eq_bytes (name_in rows (number_in rows s)) s

-- every symbol of the list that the words name has a number that passes
unfoldable pub symbol_passes : (ℕ → Bool) → ℕ → Bool
symbol_passes good w = cond (eqb (kind_of w) 0) (cond (eqb (below_of w % 3) 0) (good (below_of w / 3)) true) true

unfoldable pub symbols_pass : (ℕ → Bool) → List ℕ → Bool
unfolding symbol_passes
symbols_pass good [] = true
symbols_pass good (w ∷ ws) = symbol_passes good w && symbols_pass good ws
