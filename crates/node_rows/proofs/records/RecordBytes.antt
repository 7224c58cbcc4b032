-- How many bytes a row's record has, by the row's words. Assumes nothing.
use Rattle.spec_tree.proofs.Digits.{plain_bytes, zero_bytes, minus_bytes}
use Prim.Native.Nat.{ℕ, zero, suc, ◌+◌, ◌-◌, ◌*◌, ◌/◌, ◌≤◌, ◌<◌}
use mathlib.Core.Path.{◌≡◌, refl, ap, ◌∙◌}
use mathlib.Core.Bool.{Bool, true, false}
use mathlib.Core.List.{List, [], ◌∷◌, ◌++◌}
use native.Mathlib.Omega.{arith}
use borrow.Author.Tests.{le-leb, lt-leb, leb-true, leb-false}
use lib.Dec.{leb}
use lib.ListN.{length, get_or, take, drop, length-append, length-take, length-drop}
use lib.Seq.{get_or-take, get_or-drop, drop-drop, take-suc}
use Rattle.spec_tree.specs.Bytes.{bytes, integer, decimal, joined}
use Rattle.spec_tree.specs.Kinds.{kind_at}
use Rattle.spec_tree.specs.Rows.{row_op}
use Rattle.spec_tree.specs.Records.{numbers_text, row_record, row_records, root_records, sheet_of, terminated}
use Rattle.spec_tree.specs.Layout.{signed, row_by, row_of, rows_of, table_of, sheet_fits}
use Rattle.spec_tree.proofs.RecordLaws.{terminated_append, joined_bytes, records_long}
use Rattle.node_rows.specs.records.Shape.{Shape}
use Rattle.spec_tree.proofs.LayoutLaws.{rows_long}

row_by_op : (n : ℕ) (fields : List ℕ) → 2 ≤ n → row_by n fields ≡ row_op n fields
unfolding row_by
row_by_op zero fields h = absurd (omega arith)
row_by_op (suc zero) fields h = absurd (omega arith)
row_by_op (suc (suc k)) fields h = refl

module _ (row : List ℕ) (S : Shape row) where
  abbrev kind : ℕ
  kind = get_or row 0 0 + get_or row 1 0

  abbrev fields : List ℕ
  fields = take (get_or row 2 0) (drop 3 row)

  pub fields_long : length fields ≡ get_or row 2 0
  fields_long = rw (length-take, length-drop) (omega (arith, S.wide, S.few))

  pub name_bytes : kind ≡ 0 → length (row_record (row_of row)) ≡ 4 + get_or row 2 0
  unfolding row_of row_by row_record
  name_bytes e = rw e (omega (arith, fields_long))

  field : (i : ℕ) → i < get_or row 2 0 → get_or fields i 0 ≡ get_or row (3 + i) 0
  field i h = rw (get_or-take, get_or-drop)

  pub constant_record : kind ≡ 1 → length (row_record (row_of row)) ≡ 6 + length (integer (signed (get_or row 3 0) (get_or row 4 0)))
  unfolding row_of row_by row_record
  constant_record e =
      let two = S.constant e in
      rw e (rw (field 0 (omega arith), field 1 (omega arith)) (omega arith))

  pub operation_record : 2 ≤ kind → length (row_record (row_of row)) ≡ length (kind_at kind).word + length (numbers_text fields)
  unfolding row_of row_record
  operation_record h = rw (row_by_op kind fields h, length-append)

-- ---- all records

-- the rows from the i-th on, one fewer at a time
pub rows_from : (n : ℕ) (ws : List ℕ) (i : ℕ) → i < n
    → terminated (row_records (rows_of (n - i) (drop (35 * i) ws))) ≡ length (row_record (row_of (take 35 (drop (35 * i) ws)))) + 2 + terminated (row_records (rows_of (n - suc i) (drop (35 * suc i) ws)))
unfolding rows_of row_records terminated
rows_from n ws i h =
    let rest = drop (35 * i) ws in
    ap (λ (m : ℕ). terminated (row_records (rows_of m rest))) (let e : n - i ≡ suc (n - suc i) = omega arith in e)
    ∙ ap (λ (l : List ℕ). length (row_record (row_of (take 35 rest))) + 2 + terminated (row_records (rows_of (n - suc i) l)))
    (drop-drop 35 (35 * i) ws ∙ ap (λ (m : ℕ). drop m ws) (let e : 35 * i + 35 ≡ 35 * suc i = omega arith in e))

pub roots_step : (s : List ℕ) (i : ℕ) → i < length s → terminated (root_records (take (suc i) s)) ≡ terminated (root_records (take i s)) + (7 + length (decimal (get_or s i 0)))
unfolding root_records terminated
roots_step s i h = ap (λ (l : List ℕ). terminated (root_records l)) (take-suc s i 0 h) ∙ snoc (take i s) (get_or s i 0)
  where
    snoc : (l : List ℕ) (n : ℕ) → terminated (root_records (l ++ (n ∷ []))) ≡ terminated (root_records l) + (7 + length (decimal n))
    snoc [] n = omega arith
    snoc (m ∷ l) n = omega (arith, snoc l n)

pub rows_end : (n i : ℕ) (ws : List ℕ) → n ≤ i → terminated (row_records (rows_of (n - i) (drop (35 * i) ws))) ≡ 0
unfolding rows_of row_records terminated
rows_end n i ws h = ap (λ (m : ℕ). terminated (row_records (rows_of m (drop (35 * i) ws)))) (let e : n - i ≡ 0 = omega arith in e)

-- ---- the whole sheet

pub no_record : (ws roots : List ℕ) → length ws < 35 → sheet_fits (table_of ws roots) ≡ false
unfolding sheet_fits table_of
no_record ws roots h = rw (rows_long (length ws / 35) ws, lt-leb 1 (length ws / 35) (let e : length ws / 35 < 1 = omega arith in e))

pub whole_sheet : (ws roots : List ℕ) (a b : ℕ) → 35 ≤ length ws → a ≡ terminated (row_records (rows_of (length ws / 35) ws)) → b ≡ terminated (root_records roots)
    → leb (a + b) 65537 ≡ sheet_fits (table_of ws roots)
unfolding sheet_fits table_of sheet_of
whole_sheet ws roots a b h p q =
    let n = length ws / 35 in
    let some : 1 ≤ n = omega arith in
    let records = row_records (rows_of n ws) ++ root_records roots in
    let long : 1 ≤ length records = omega (arith, records_long (rows_of n ws) (root_records roots), rows_long n ws) in
    let e : a + b ≡ length (joined (bytes "\r\n") records) + 2 = omega (arith, joined_bytes records long, terminated_append (row_records (rows_of n ws)) (root_records roots)) in
    rw (rows_long n ws, le-leb 1 n some, e) (two_more (length (joined (bytes "\r\n") records)))
  where
    two_more : (m : ℕ) → leb (m + 2) 65537 ≡ leb m 65535
    two_more m = go (leb m 65535) refl
      where
        go : (b : Bool) → leb m 65535 ≡ b → leb (m + 2) 65537 ≡ b
        go true e = let l = leb-true m 65535 e in le-leb (m + 2) 65537 (omega arith)
        go false e = let l = leb-false m 65535 e in lt-leb (m + 2) 65537 (omega arith)

-- a constant's text by its sign and size
pub ruleset constant_texts = (plain_bytes, zero_bytes, minus_bytes)
