-- Node rows as words (01, "Turned down": Load's rows, and 9, "rows load couldn't lay out"). A row is 35 words: its kind, 0 to 27 as 01 lists them, a 1 where a
-- Select has a default, how many fields it has, and the fields: a name's bytes, a constant's sign and size, or the operands' node numbers. The words
-- that are left are 0, so that equal tables are equal words. Assumes nothing.
use Rattle.std.specs.Prelude.{ℕ, zero, suc, ◌+◌, ◌-◌, ◌/◌, Bool, true, ◌&&◌, cond, List, [], ◌∷◌, ◌++◌, ℤ, pos, negsuc, neg_ℤ, length, get_or, take, drop, replicate, eqb, leb, ltb}
use Rattle.spec_tree.specs.Outcome.{Outcome, ok, refused, by}
use Rattle.spec_tree.specs.Bytes.{eq_bytes, every}
use Rattle.spec_tree.specs.Kinds.{Select, SelectOr}
use Rattle.spec_tree.specs.Symbol.{is_name}
use Rattle.spec_tree.specs.Rows.{Row, row_sym, row_const, row_op, Table, trees, within_limits}
use Rattle.spec_tree.specs.Passes.{of_paper, operands_ok}
use Rattle.spec_tree.specs.Records.{sheet_of}

-- ---- from rows to words

abbrev pub row_width : ℕ
row_width = 35

abbrev pub most_fields : ℕ
most_fields = 32

unfoldable pub row_kind : Row → ℕ
row_kind (row_sym s) = 0
row_kind (row_const c) = 1
row_kind (row_op k ns) = cond (eqb k SelectOr) Select k

unfoldable pub row_default : Row → ℕ
row_default (row_sym s) = 0
row_default (row_const c) = 0
row_default (row_op k ns) = cond (eqb k SelectOr) 1 0

unfoldable pub row_fields : Row → List ℕ
row_fields (row_sym s) = s
row_fields (row_const (pos n)) = 0 ∷ n ∷ []
row_fields (row_const (negsuc n)) = 1 ∷ suc n ∷ []
row_fields (row_op k ns) = ns

unfoldable pub row_words : Row → List ℕ
unfolding row_kind row_default row_fields
row_words r =
    let fields = row_fields r in
    row_kind r ∷ row_default r ∷ length fields ∷ (fields ++ replicate (most_fields - length fields) 0)

unfoldable pub table_words : List Row → List ℕ
unfolding row_words
table_words [] = []
table_words (r ∷ l) = row_words r ++ table_words l

-- ---- from words to rows, whatever the words are

unfoldable pub signed : ℕ → ℕ → ℤ
signed s n = cond (eqb s 0) (pos n) (neg_ℤ (pos n))

unfoldable pub row_by : ℕ → List ℕ → Row
unfolding signed
row_by zero fields = row_sym fields
row_by (suc zero) fields = row_const (signed (get_or fields 0 0) (get_or fields 1 0))
row_by (suc (suc k)) fields = row_op (suc (suc k)) fields

-- the number of a Select with a default is one more than a Select's
unfoldable pub row_of : List ℕ → Row
unfolding row_by
row_of ws = row_by (get_or ws 0 0 + get_or ws 1 0) (take (get_or ws 2 0) (drop 3 ws))

unfoldable pub rows_of : ℕ → List ℕ → List Row
unfolding row_of
rows_of zero ws = []
rows_of (suc n) ws = row_of (take row_width ws) ∷ rows_of n (drop row_width ws)

unfoldable pub table_of : List ℕ → List ℕ → Table
unfolding rows_of
table_of ws roots = record { rows = rows_of (length ws / row_width) ws; roots = roots }

-- ---- 9

-- a node's row after i others
unfoldable pub row_ok : ℕ → Row → Bool
unfolding is_name of_paper operands_ok every
row_ok i (row_sym s) = is_name s
row_ok i (row_const c) = of_paper c
row_ok i (row_op k ns) = operands_ok k (length ns) && every (λ n. ltb n i) ns

unfoldable pub rows_ok : ℕ → List Row → Bool
unfolding row_ok
rows_ok i [] = true
rows_ok i (r ∷ l) = row_ok i r && rows_ok (suc i) l

-- a list within every limit of 01's first section
unfoldable pub in_domain : Table → Bool
unfolding rows_ok every within_limits trees
in_domain t =
    (leb (length t.rows) 1024 && leb (length t.roots) 64)
    && (rows_ok 0 t.rows && (every (λ n. ltb n (length t.rows)) t.roots && within_limits (trees t)))

-- load takes at least one record and at most 65,535 bytes
unfoldable pub sheet_fits : Table → Bool
unfolding sheet_of
sheet_fits t = leb 1 (length t.rows) && leb (length (sheet_of t)) 65535

-- a table that load gives for some sheet
unfoldable pub loadable : Table → Bool
unfolding in_domain sheet_fits
loadable t = in_domain t && sheet_fits t

-- the words are a loadable table's
unfoldable pub laid_out : List ℕ → List ℕ → Bool
unfolding table_of table_words eq_bytes loadable
laid_out ws roots = eq_bytes (table_words (table_of ws roots).rows) ws && loadable (table_of ws roots)

-- the table that the words are, or 9
unfoldable pub table_or_9 : List ℕ → List ℕ → Outcome Table
unfolding laid_out table_of
table_or_9 ws roots = cond (laid_out ws roots) (ok (table_of ws roots)) (refused (by 9))
