-- The rows of a match's names (01, "Scoped fusion"), and the numbers that have one. Assumes nothing.
use Rattle.std.specs.Prelude.{ℕ, ◌+◌, ◌*◌, Bool, true, false, ◌&&◌, List, [], ◌∷◌, leb}
use Rattle.spec_tree.specs.Tokens.{word}
use Rattle.spec_cse.specs.AnswerRows.{name_row}
use Rattle.fusion.specs.place.Overlay.{overlay}

-- the row of the name `__mN`
unfoldable pub row_of_name : ℕ → ℕ
row_of_name n = word name_row (2 + 3 * n)

unfoldable pub rows_of_names : List ℕ → List ℕ
unfolding row_of_name
rows_of_names [] = []
rows_of_names (n ∷ l) = row_of_name n ∷ rows_of_names l

-- whether each number's row is a word: at most 2^39
unfoldable pub names_fit : List ℕ → Bool
names_fit [] = true
names_fit (n ∷ l) = leb n 549755813888 && names_fit l

-- the table after the rows are put from a place on, by whether the numbers fit
unfoldable pub names_put : Bool → List ℕ → ℕ → List ℕ → List ℕ
unfolding overlay rows_of_names
names_put true numbers at old = overlay at (rows_of_names numbers) old
names_put false numbers at old = old
