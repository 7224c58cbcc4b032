-- A table that passes `loadable` is what load gives for the table's own sheet. Assumes nothing.
use Prim.Native.Nat.{ℕ, suc, ◌+◌, ◌≤◌, ◌<◌}
use mathlib.Core.Path.{◌≡◌, refl, sym, ◌∙◌, ap, subst}
use mathlib.Core.Bool.{Bool, true, false, cond}
use mathlib.Core.Option.{some}
use mathlib.Core.List.{List, [], ◌∷◌, ◌++◌, append-nil, append_assoc}
use native.Mathlib.Omega.{arith}
use borrow.Author.Tests.{ne_eqb, lt-ltb, le-ltb, lt-leb}
use lib.ListN.{length, get_or, length-append}
use lib.Dec.{T, eqb, leb, ltb, leb→le}
use Rattle.spec_tree.specs.Outcome.{Outcome, ok, refused, ◌at_record◌}
use Rattle.spec_tree.specs.Bytes.{bytes, every, joined, decimal, integer}
use Rattle.spec_tree.specs.Kinds.{kind_at, arity_ok, Neg}
use Rattle.spec_tree.specs.Symbol.{is_name}
use Rattle.spec_tree.specs.Rows.{Row, row_sym, row_const, row_op, Table, trees, within_limits}
use Rattle.spec_tree.specs.Passes.{operands_ok}
use Rattle.spec_tree.specs.Records.{numbers_text, row_record, root_records, row_records, sheet_of, terminated}
use Rattle.spec_tree.specs.Layout.{row_ok, rows_ok, in_domain, sheet_fits, loadable}
use Rattle.spec_tree.proofs.Logic.{and_left, and_right, and_both}
use Rattle.spec_tree.proofs.DomainPasses.{Domain, domain}
use Rattle.spec_sheet.specs.Sheet.{records_from, fields_from, plain, words, Root, find, fields_ok, add_row, add_root, add_numbers, add_fields, add_record, load_records, load}
use Rattle.spec_tree.proofs.Tests.{is_true, every_more}
use Rattle.spec_sheet.proofs.Numerals.{constant_integer}
use Rattle.spec_sheet.proofs.Inner.{inner_plain, inner_no_comma, name_inner, decimal_inner, integer_inner}
use Rattle.spec_sheet.proofs.Words.{Word, word, kind_word}
use Rattle.spec_tree.proofs.KindLaws.{arity_kind}
use Rattle.spec_tree.proofs.RecordLaws.{joined_bytes, records_long}
use Rattle.spec_sheet.proofs.Splitting.{Sound, records_joined, two_fields, texts, number_fields, numbers_texts, texts_length}

-- ---- a kind's word, and operands

numbers_plain : (ns : List ℕ) → T (every plain (numbers_text ns))
unfolding numbers_text every
numbers_plain [] = tt
numbers_plain (n ∷ ns) = and_both (plain 44) (every plain (decimal n ++ numbers_text ns)) (unfold plain in tt) (every_more plain (decimal n) (numbers_text ns) (inner_plain (decimal n) (decimal_inner n)) (numbers_plain ns))

op_word : (k n : ℕ) → T (operands_ok k n) → Word k (kind_at k).word
unfolding operands_ok
op_word k n h =
    let l = arity_kind k n (and_right (leb Neg k) (arity_ok k n) h) in
    subst (λ (w : List ℕ). Word k w) (kind_word k l) (word k (omega arith))

-- ---- a row's record can stand in a sheet

record Stands (r : List ℕ) : Type 0 where
  clean : T (every plain r)
  long : 1 ≤ length r

row_stands : (i : ℕ) (r : Row) → T (row_ok i r) → Stands (row_record r)
unfolding row_record row_ok
row_stands i (row_sym s) h = record { clean = (unfold every plain in inner_plain s (name_inner s h)); long = omega arith }
row_stands i (row_const c) h = record { clean = (unfold every plain in inner_plain (integer c) (integer_inner c)); long = omega arith }
row_stands i (row_op k ns) h =
    let w = op_word k (length ns) (and_left (operands_ok k (length ns)) (every (λ n. ltb n i) ns) h) in
    record {
      clean = every_more plain (kind_at k).word (numbers_text ns) (inner_plain (kind_at k).word w.clean) (numbers_plain ns);
      long = omega (arith, w.long, length-append (kind_at k).word (numbers_text ns));
    }

root_stands : (n : ℕ) → Stands (bytes "Root," ++ decimal n)
root_stands n = record { clean = (unfold every plain in inner_plain (decimal n) (decimal_inner n)); long = omega arith }

-- ---- a record is taken

row_added : (i : ℕ) (r : Row) (t : Table) → length t.rows < 1024 → add_row i r t ≡ ok (record { rows = t.rows ++ (r ∷ []); roots = t.roots })
unfolding add_row
row_added i r t h = rw (lt-ltb (length t.rows) 1024 h)

root_added : (i n : ℕ) (t : Table) → length t.roots < 64 → add_root i n t ≡ ok (record { rows = t.rows; roots = t.roots ++ (n ∷ []) })
unfolding add_root
root_added i n t h = rw (lt-ltb (length t.roots) 64 h)

numbers_taken : (i k : ℕ) (w ns : List ℕ) (t : Table) → find 0 w words ≡ some k → 2 ≤ k → T (fields_ok k (length ns)) → T (every (λ n. ltb n (length t.rows)) ns)
    → add_record i (w ∷ texts ns) t ≡ cond (eqb k Root) (add_root i (get_or ns 0 0) t) (add_row i (row_op k ns) t)
unfolding add_record add_fields add_numbers
numbers_taken i k w ns t e h f g =
    rw (e, add_record, texts_length ns, is_true (fields_ok k (length ns)) f, ne_eqb k 0 (omega arith), add_fields, ne_eqb k 1 (omega arith), numbers_texts ns, is_true (every (λ n. ltb n (length t.rows)) ns) g, add_numbers)

row_taken : (i : ℕ) (r : Row) (t : Table) → T (row_ok (length t.rows) r) → length t.rows < 1024
    → add_record i (fields_from [] (row_record r)) t ≡ ok (record { rows = t.rows ++ (r ∷ []); roots = t.roots })
unfolding row_record row_ok
row_taken i (row_sym s) t h g =
    ap (λ (l : List (List ℕ)). add_record i l t) (two_fields (bytes "Sym") s (unfold every in tt) (inner_no_comma s (name_inner s h)))
    ∙ (unfold add_record in rw (is_true (is_name s) h) (row_added i (row_sym s) t g))
row_taken i (row_const c) t h g =
    ap (λ (l : List (List ℕ)). add_record i l t) (two_fields (bytes "Const") (integer c) (unfold every in tt) (inner_no_comma (integer c) (integer_inner c)))
    ∙ (unfold add_record in rw (constant_integer c h, add_record, add_fields) (row_added i (row_const c) t g))
row_taken i (row_op k ns) t h g =
    let o = and_left (operands_ok k (length ns)) (every (λ n. ltb n (length t.rows)) ns) h in
    let w = op_word k (length ns) o in
    let two = leb→le Neg k (and_left (leb Neg k) (arity_ok k (length ns)) (unfold operands_ok in o)) in
    let arity = and_right (leb Neg k) (arity_ok k (length ns)) (unfold operands_ok in o) in
    let below = arity_kind k (length ns) arity in
    let root : eqb k Root ≡ false = ne_eqb k Root (omega arith) in
    let fits : T (fields_ok k (length ns)) = rw (root, lt-leb k 1 (omega arith)) arity in
    ap (λ (l : List (List ℕ)). add_record i l t) (number_fields (kind_at k).word (inner_no_comma (kind_at k).word w.clean) ns)
    ∙ (numbers_taken i k (kind_at k).word ns t w.found two fits (and_right (operands_ok k (length ns)) (every (λ n. ltb n (length t.rows)) ns) h)
    ∙ rw root (row_added i (row_op k ns) t g))

root_taken : (i n : ℕ) (t : Table) → T (ltb n (length t.rows)) → length t.roots < 64
    → add_record i (fields_from [] (bytes "Root," ++ decimal n)) t ≡ ok (record { rows = t.rows; roots = t.roots ++ (n ∷ []) })
root_taken i n t h g =
    let same : decimal n ∷ [] ≡ texts (n ∷ []) = (unfold texts in refl) in
    ap (λ (l : List (List ℕ)). add_record i l t) (two_fields (bytes "Root") (decimal n) (unfold every in tt) (inner_no_comma (decimal n) (decimal_inner n)))
    ∙ (ap (λ (l : List (List ℕ)). add_record i (bytes "Root" ∷ l) t) same
    ∙ (numbers_taken i Root (bytes "Root") (n ∷ []) t (unfold find words in refl) (omega arith) tt (unfold every in and_both (ltb n (length t.rows)) true h tt)
    ∙ root_added i n t g))

-- ---- all records, one by one

record_loaded : (i : ℕ) (r : List ℕ) (l : List (List ℕ)) (t u : Table) → T (every plain r) → add_record i (fields_from [] r) t ≡ ok u → load_records i (r ∷ l) t ≡ load_records (suc i) l u
unfolding load_records
record_loaded i r l t u h e = go (every plain r) h (add_record i (fields_from [] r) t) e
  where
    go : (b : Bool) → T b → (o : Outcome Table) → o ≡ ok u
        → ◌≡◌ {A = Outcome Table} (elim b [ true ↦ elim o [ ok u ↦ load_records (suc i) l u | refused r ↦ refused r ] | false ↦ refused (2 at_record i) ]) (load_records (suc i) l u)
    go true h (ok v) e = ap (λ (v : Table). load_records (suc i) l v) (let q : v ≡ u = cc in q)
    go true h (refused r) e = cc
    go false h o e = absurd h

rows_loaded : (i : ℕ) (l : List Row) (rest : List (List ℕ)) (t : Table) → T (rows_ok (length t.rows) l) → length t.rows + length l ≤ 1024
    → load_records i (row_records l ++ rest) t ≡ load_records (i + length l) rest (record { rows = t.rows ++ l; roots = t.roots })
unfolding row_records rows_ok
rows_loaded i [] rest t h g =
    let e : i ≡ i + 0 = omega arith in
    ap (λ (j : ℕ). load_records j rest t) e ∙ ap (λ (l : List Row). load_records (i + 0) rest (record { rows = l; roots = t.roots })) (sym (append-nil t.rows))
rows_loaded i (r ∷ l) rest t h g =
    let next = t.rows ++ (r ∷ []) in
    let n : length next ≡ suc (length t.rows) = omega (arith, length-append t.rows (r ∷ [])) in
    let e : suc i + length l ≡ i + suc (length l) = omega arith in
    let ok_row = and_left (row_ok (length t.rows) r) (rows_ok (suc (length t.rows)) l) h in
    let ok_rest = and_right (row_ok (length t.rows) r) (rows_ok (suc (length t.rows)) l) h in
    record_loaded i (row_record r) (row_records l ++ rest) t (record { rows = next; roots = t.roots }) (row_stands (length t.rows) r ok_row).clean (row_taken i r t ok_row (omega arith))
    ∙ (rows_loaded (suc i) l rest (record { rows = next; roots = t.roots }) (subst (λ (m : ℕ). T (rows_ok m l)) (sym n) ok_rest) (omega arith)
    ∙ (ap (λ (j : ℕ). load_records j rest (record { rows = next ++ l; roots = t.roots })) e
    ∙ ap (λ (m : List Row). load_records (i + suc (length l)) rest (record { rows = m; roots = t.roots })) (append_assoc t.rows (r ∷ []) l)))

roots_loaded : (i : ℕ) (l : List ℕ) (t : Table) → T (every (λ n. ltb n (length t.rows)) l) → length t.roots + length l ≤ 64
    → load_records i (root_records l) t ≡ ok (record { rows = t.rows; roots = t.roots ++ l })
unfolding root_records every
roots_loaded i [] t h g = unfold load_records in ap (λ (m : List ℕ). ok (record { rows = t.rows; roots = m })) (sym (append-nil t.roots))
roots_loaded i (n ∷ l) t h g =
    let next = t.roots ++ (n ∷ []) in
    let e : length next ≡ suc (length t.roots) = omega (arith, length-append t.roots (n ∷ [])) in
    let less = and_left (ltb n (length t.rows)) (every (λ n. ltb n (length t.rows)) l) h in
    record_loaded i (bytes "Root," ++ decimal n) (root_records l) t (record { rows = t.rows; roots = next }) (root_stands n).clean (root_taken i n t less (omega arith))
    ∙ (roots_loaded (suc i) l (record { rows = t.rows; roots = next }) (and_right (ltb n (length t.rows)) (every (λ n. ltb n (length t.rows)) l) h) (omega arith)
    ∙ ap (λ (m : List ℕ). ok (record { rows = t.rows; roots = m })) (append_assoc t.roots (n ∷ []) l))

-- ---- the sheet

rows_sound : (i : ℕ) (l : List Row) (rest : List (List ℕ)) → T (rows_ok i l) → Sound rest → Sound (row_records l ++ rest)
unfolding row_records rows_ok
rows_sound i [] rest h s = s
rows_sound i (r ∷ l) rest h s =
    let a = row_stands i r (and_left (row_ok i r) (rows_ok (suc i) l) h) in
    (a.clean, a.long, rows_sound (suc i) l rest (and_right (row_ok i r) (rows_ok (suc i) l) h) s)

roots_sound : (l : List ℕ) → Sound (root_records l)
unfolding root_records
roots_sound [] = tt
roots_sound (n ∷ l) = ((root_stands n).clean, (root_stands n).long, roots_sound l)

-- records that are not empty make a sheet that isn't
sheet_long : (l : List (List ℕ)) → Sound l → 1 ≤ length l → 1 ≤ length (joined (bytes "\r\n") l)
sheet_long [] s h = absurd (omega arith)
sheet_long (r ∷ l) s h = let a = s.1 in omega (arith, joined_bytes (r ∷ l) h, (let e : terminated (r ∷ l) ≡ length r + 2 + terminated l = (unfold terminated in refl) in e))

all_loaded : (t : Table) → Domain t → load_records 0 (row_records t.rows ++ root_records t.roots) (record { rows = []; roots = [] }) ≡ ok t
all_loaded t D =
    rows_loaded 0 t.rows (root_records t.roots) (record { rows = []; roots = [] }) D.good_rows (let h = D.few_rows in omega arith)
    ∙ roots_loaded (0 + length t.rows) t.roots (record { rows = t.rows; roots = [] }) D.good_roots (let h = D.few_roots in omega arith)

module _ (row_places root_places : ℕ) (p : 1024 ≤ row_places) (q : 64 ≤ root_places) where
  sheet_loaded : (s : List ℕ) (t : Table) → 1 ≤ length s → length s ≤ 65535 → load_records 0 (records_from [] s) (record { rows = []; roots = [] }) ≡ ok t → T (within_limits (trees t))
      → load row_places root_places s ≡ ok t
  unfolding load
  sheet_loaded s t h g e w =
      rw (le-ltb row_places 1024 p, le-ltb root_places 64 q, ne_eqb (length s) 0 (omega arith), le-ltb 65535 (length s) g, e, is_true (within_limits (trees t)) w)

pub loadable_loads : (t : Table) → T (loadable t) → (row_places root_places : ℕ) → 1024 ≤ row_places → 64 ≤ root_places → load row_places root_places (sheet_of t) ≡ ok t
unfolding loadable sheet_fits sheet_of
loadable_loads t h row_places root_places p q =
    let D = domain t (and_left (in_domain t) (sheet_fits t) h) in
    let fits = and_right (in_domain t) (sheet_fits t) h in
    let some_row = leb→le 1 (length t.rows) (and_left (leb 1 (length t.rows)) (leb (length (sheet_of t)) 65535) fits) in
    let short = leb→le (length (sheet_of t)) 65535 (and_right (leb 1 (length t.rows)) (leb (length (sheet_of t)) 65535) fits) in
    let records = row_records t.rows ++ root_records t.roots in
    let sound = rows_sound 0 t.rows (root_records t.roots) D.good_rows (roots_sound t.roots) in
    let more : 1 ≤ length records = omega (arith, records_long t.rows (root_records t.roots)) in
    sheet_loaded row_places root_places p q (joined (bytes "\r\n") records) t (sheet_long records sound more) short
    (ap (λ (l : List (List ℕ)). load_records 0 l (record { rows = []; roots = [] })) (records_joined records sound) ∙ all_loaded t D) D.limited
