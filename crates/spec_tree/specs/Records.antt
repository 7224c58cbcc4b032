-- The sheet that gives a table (01, "Sheet and printing"): a record for each row and then for each root, CRLF between them. Every other sheet that gives the
-- table has the same records, its roots' perhaps earlier, and at most a CRLF more. Assumes nothing.
use Rattle.std.specs.Prelude.{ℕ, ◌+◌, List, [], ◌∷◌, ◌++◌, length}
use Rattle.spec_tree.specs.Bytes.{bytes, decimal, integer, joined}
use Rattle.spec_tree.specs.Kinds.{kind_at}
use Rattle.spec_tree.specs.Rows.{Row, row_sym, row_const, row_op, Table}

-- each number after a comma
unfoldable pub numbers_text : List ℕ → List ℕ
unfolding decimal
numbers_text [] = []
numbers_text (n ∷ l) = bytes "," ++ decimal n ++ numbers_text l

unfoldable pub row_record : Row → List ℕ
unfolding integer kind_at numbers_text
row_record (row_sym s) = bytes "Sym," ++ s
row_record (row_const c) = bytes "Const," ++ integer c
row_record (row_op k ns) = (kind_at k).word ++ numbers_text ns

unfoldable pub root_records : List ℕ → List (List ℕ)
unfolding decimal
root_records [] = []
root_records (n ∷ l) = (bytes "Root," ++ decimal n) ∷ root_records l

unfoldable pub row_records : List Row → List (List ℕ)
unfolding row_record
row_records [] = []
row_records (r ∷ l) = row_record r ∷ row_records l

unfoldable pub sheet_of : Table → List ℕ
unfolding joined row_records root_records
sheet_of t = joined (bytes "\r\n") (row_records t.rows ++ root_records t.roots)

-- how many bytes records have with a CRLF after each
unfoldable pub terminated : List (List ℕ) → ℕ
terminated [] = 0
terminated (r ∷ l) = length r + 2 + terminated l
