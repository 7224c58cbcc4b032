-- A sheet is short where its rows are few and have few fields, whatever they are. Assumes nothing.
use Prim.Native.Nat.{ℕ, zero, suc, ◌+◌, ◌-◌, ◌*◌, ◌/◌, ◌≤◌, ◌<◌}
use mathlib.Core.Path.{◌≡◌, refl, sym, ap, ap₂, ◌∙◌, subst}
use mathlib.Core.Bool.{Bool, true, false}
use mathlib.Core.List.{List, [], ◌∷◌}
use native.Mathlib.Omega.{arith}
use borrow.Author.Tests.{ltb-true, ltb-false, le-leb}
use lib.IntN.{pos, negsuc}
use lib.Dec.{T, ltb, leb, ltb→lt, leb→le}
use lib.ListN.{length, get_or, drop, length-append}
use lib.Seq.{get_or-take, get_or-drop, drop-drop, drop_at}
use Rattle.spec_tree.specs.Bytes.{decimal, integer, eq_bytes, every}
use Rattle.spec_tree.specs.Kinds.{kind_at}
use Rattle.spec_tree.specs.Passes.{of_paper, operands_ok}
use Rattle.spec_tree.specs.Rows.{Row, row_sym, row_const, row_op}
use Rattle.spec_tree.specs.Records.{numbers_text, row_record, row_records, root_records, terminated}
use Rattle.spec_tree.specs.Layout.{row_fields, row_words, table_words, rows_of, row_ok, rows_ok, table_of, in_domain, sheet_fits}
use Rattle.spec_tree.proofs.Digits.{one_digit, more_digits, numbers_cons, numbers_none}
use Rattle.spec_tree.proofs.DomainPasses.{domain}
use Rattle.spec_tree.proofs.LayoutLaws.{rows_long, fields_few, words_long}
use Rattle.spec_tree.proofs.Logic.{and_left, and_right}
use Rattle.spec_tree.proofs.TreeLaws.{eq_bytes_sound}
use Rattle.node_rows.specs.records.Shape.{Shapes, field_count}
use Rattle.node_rows.specs.rows.Check.{laid_in_domain}
use Rattle.node_rows.proofs.kinds.Spans.{span}
use Rattle.node_rows.proofs.unfolded.RowLaws.{few_kinds}
use Rattle.node_rows.proofs.records.RecordBytes.{whole_sheet}

-- ---- the fields of all rows, counted one row after another

pub fields_from : (n : ℕ) (ws : List ℕ) (i : ℕ) → i < n → field_count (n - i) (drop (35 * i) ws) ≡ get_or ws (35 * i + 2) 0 + field_count (n - suc i) (drop (35 * suc i) ws)
unfolding field_count
fields_from n ws i h =
    ap (λ (m : ℕ). field_count m (drop (35 * i) ws)) (let e : n - i ≡ suc (n - suc i) = omega arith in e)
    ∙ ap₂ (λ (a : ℕ) (l : List ℕ). a + field_count (n - suc i) l) (get_or-drop (35 * i) ws 2 0)
    (drop-drop 35 (35 * i) ws ∙ ap (λ (m : ℕ). drop m ws) (let e : 35 * i + 35 ≡ 35 * suc i = omega arith in e))

pub fields_end : (n i : ℕ) (ws : List ℕ) → n ≤ i → field_count (n - i) (drop (35 * i) ws) ≡ 0
unfolding field_count
fields_end n i ws h = ap (λ (m : ℕ). field_count m (drop (35 * i) ws)) (let e : n - i ≡ 0 = omega arith in e)

pub field_few : {ws : List ℕ} → Shapes ws → (i : ℕ) → i < length ws / 35 → get_or ws (35 * i + 2) 0 ≤ 32
field_few {ws} S i h =
    subst (λ (m : ℕ). m ≤ 32) (get_or-take 35 (drop (35 * i) ws) 2 0 (omega arith) ∙ get_or-drop (35 * i) ws 2 0) (S.each_row i h).few

-- ---- a row's bytes

abbrev ten_to : ℕ → ℕ
ten_to zero = 1
ten_to (suc k) = 10 * ten_to k

digits_most : (k n : ℕ) → n < ten_to (suc k) → length (decimal n) ≤ suc k
digits_most zero n h = omega (arith, one_digit n (omega arith))
digits_most (suc k) n h = go (ltb n 10) refl (λ l. digits_most k (n / 10) (omega arith))
  where
    go : (b : Bool) → ltb n 10 ≡ b → (10 ≤ n → length (decimal (n / 10)) ≤ suc k) → length (decimal n) ≤ suc (suc k)
    go true e i = omega (arith, one_digit n (ltb-true n 10 e))
    go false e i = let l = ltb-false n 10 e in omega (arith, more_digits n l, i l)

four : (n : ℕ) → n < 1024 → length (decimal n) ≤ 4
four n h = digits_most 3 n (omega arith)

numbers_short : (m : ℕ) (ns : List ℕ) → m ≤ 1024 → T (every (λ n. ltb n m) ns) → length (numbers_text ns) ≤ 5 * length ns
unfolding every
numbers_short m [] h t = omega (arith, numbers_none)
numbers_short m (n ∷ ns) h t =
    let l = ltb→lt n m (and_left (ltb n m) (every (λ n. ltb n m) ns) t) in
    omega (arith, numbers_cons n ns, four n (omega arith), numbers_short m ns h (and_right (ltb n m) (every (λ n. ltb n m) ns) t))

word_short : (k : ℕ) → k ≤ 28 → length (kind_at k).word ≤ 9
unfolding kind_at
word_short k h = leb→le (length (kind_at k).word) 9 (span (λ k. leb (length (kind_at k).word) 9) 0 29 tt k (omega arith) (omega arith))

row_short : (i : ℕ) (r : Row) → i ≤ 1024 → T (row_ok i r) → length (row_record r) + 2 ≤ 14 + 5 * length (row_fields r)
unfolding row_record row_fields row_ok of_paper integer
row_short i (row_sym s) h t = omega arith
row_short i (row_const (pos n)) h t = let l = ltb→lt n 1000000000000000 t in omega (arith, digits_most 14 n (omega arith))
row_short i (row_const (negsuc n)) h t = let l = ltb→lt (suc n) 1000000000000000 t in omega (arith, digits_most 14 (suc n) (omega arith))
row_short i (row_op k ns) h t =
    let o = and_left (operands_ok k (length ns)) (every (λ n. ltb n i) ns) t in
    let b = and_right (operands_ok k (length ns)) (every (λ n. ltb n i) ns) t in
    omega (arith, length-append (kind_at k).word (numbers_text ns), word_short k (few_kinds k (length ns) o).1, numbers_short i ns h b)

-- ---- all records

abbrev fields_in : List Row → ℕ
fields_in [] = 0
fields_in (r ∷ l) = length (row_fields r) + fields_in l

rows_short : (i : ℕ) (l : List Row) → i + length l ≤ 1024 → T (rows_ok i l) → terminated (row_records l) ≤ 14 * length l + 5 * fields_in l
unfolding row_records terminated rows_ok
rows_short i [] h t = omega arith
rows_short i (r ∷ l) h t =
    omega (arith, row_short i r (omega arith) (and_left (row_ok i r) (rows_ok (suc i) l) t), rows_short (suc i) l (omega arith) (and_right (row_ok i r) (rows_ok (suc i) l) t))

fields_are : (i : ℕ) (l : List Row) → T (rows_ok i l) → field_count (length l) (table_words l) ≡ fields_in l
unfolding field_count table_words rows_ok row_words
fields_are i [] t = refl
fields_are i (r ∷ l) t =
    let n = words_long r (fields_few i r (and_left (row_ok i r) (rows_ok (suc i) l) t)) in
    ap (λ (w : List ℕ). length (row_fields r) + field_count (length l) w) (drop_at (row_words r) (table_words l) 35 n)
    ∙ ap (λ (m : ℕ). length (row_fields r) + m) (fields_are (suc i) l (and_right (row_ok i r) (rows_ok (suc i) l) t))

roots_short : (m : ℕ) (ns : List ℕ) → m ≤ 1024 → T (every (λ n. ltb n m) ns) → terminated (root_records ns) ≤ 11 * length ns
unfolding every root_records terminated
roots_short m [] h t = omega arith
roots_short m (n ∷ ns) h t =
    let l = ltb→lt n m (and_left (ltb n m) (every (λ n. ltb n m) ns) t) in
    omega (arith, four n (omega arith), roots_short m ns h (and_right (ltb n m) (every (λ n. ltb n m) ns) t))

-- ---- the sheet

pub roots_few : (ws roots : List ℕ) → T (laid_in_domain ws roots) → length roots ≤ 64
unfolding laid_in_domain table_of
roots_few ws roots t = (domain (table_of ws roots) (and_right (eq_bytes (table_words (table_of ws roots).rows) ws) (in_domain (table_of ws roots)) t)).few_roots

pub short_sheet :
    (ws roots : List ℕ) → T (laid_in_domain ws roots) → 35 ≤ length ws → 14 * (length ws / 35) + 5 * field_count (length ws / 35) ws ≤ 64833 → true ≡ sheet_fits (table_of ws roots)
unfolding laid_in_domain table_of
short_sheet ws roots t h b =
    let n = length ws / 35 in
    let l = rows_of n ws in
    let e = eq_bytes (table_words l) ws in
    let D = domain (table_of ws roots) (and_right e (in_domain (table_of ws roots)) t) in
    let whole : table_words l ≡ ws = eq_bytes_sound (table_words l) ws (and_left e (in_domain (table_of ws roots)) t) in
    let long : length l ≡ n = rows_long n ws in
    let fields : field_count n ws ≡ fields_in l = ap₂ (λ (m : ℕ) (w : List ℕ). field_count m w) (sym long) (sym whole) ∙ fields_are 0 l D.good_rows in
    let few : length l ≤ 1024 = D.few_rows in
    let a : terminated (row_records l) ≤ 14 * length l + 5 * fields_in l = rows_short 0 l (omega arith) D.good_rows in
    let r : terminated (root_records roots) ≤ 11 * length roots = roots_short (length l) roots few D.good_roots in
    let few_roots : length roots ≤ 64 = D.few_roots in
    sym (le-leb (terminated (row_records l) + terminated (root_records roots)) 65537 (omega arith)) ∙ whole_sheet ws roots (terminated (row_records l)) (terminated (root_records roots)) h refl refl
