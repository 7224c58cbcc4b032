-- The layout of rows as words. Words pass 9 exactly where they are a loadable table's, which is read back from them; and the trees of a loadable table are
-- what demand 3 asks of a list. Assumes nothing.
use Prim.Native.Nat.{ℕ, zero, suc, ◌+◌, ◌-◌, ◌*◌, ◌/◌, ◌≤◌, min}
use mathlib.Core.Path.{◌≡◌, refl, sym, ◌∙◌, ap, ap₂, subst}
use mathlib.Core.Bool.{Bool, true, false, not, ◌&&◌, ◌||◌, cond}
use mathlib.Core.List.{List, [], ◌∷◌}
use native.Mathlib.Nat.{add-zero, mul-div_cancel}
use native.Mathlib.Omega.{arith}
use lib.IntN.{pos, negsuc}
use lib.Dec.{T, eqb, leb, ltb, eqb→eq, leb→le}
use lib.ListN.{length, get_or, replicate, length-append, length-replicate, take, drop, length-take}
use lib.Seq.{take-append_seam, take_at, drop_at, take-take, take_all}
use Rattle.spec_tree.specs.Bytes.{eq_bytes, every}
use Rattle.spec_tree.specs.Kinds.{Kind, kinds, kind_at, arity_ok, Neg, Select, SelectOr}
use Rattle.spec_tree.specs.Symbol.{is_letter, is_digit, is_made, is_name}
use Rattle.spec_tree.specs.Rows.{Row, row_sym, row_const, row_op, Table, trees}
use Rattle.spec_tree.specs.Passes.{operands_ok, passes}
use Rattle.spec_tree.specs.Layout.{row_kind, row_default, row_fields, row_words, table_words, signed, row_by, row_of, rows_of, table_of, row_ok, rows_ok, in_domain, sheet_fits, loadable, laid_out}
use Rattle.spec_tree.proofs.DomainPasses.{domain, loadable_passes}
use Rattle.spec_tree.proofs.Logic.{and_left, and_right, and_both}
use Rattle.spec_tree.proofs.TreeLaws.{eq_bytes_sound, eq_bytes_refl}
use borrow.Author.Tests.{leb-true, leb-false}

-- ---- a row that load lays out has at most 32 fields

pub name_short : (s : List ℕ) → T (is_name s) → length s ≤ 32
unfolding is_name
name_short [] t = absurd t
name_short (b ∷ l) t =
    let c = every (λ c. is_letter c || is_digit c) l in
    let d = leb (suc (length l)) 32 in
    let m = not (is_made (b ∷ l)) in
    leb→le (suc (length l)) 32 (and_left d m (and_right c (d && m) (and_right (is_letter b) (c && (d && m)) t)))

abbrev small : List Kind → Bool
small [] = true
small (k ∷ l) = leb k.most 32 && small l

most_small : (l : List Kind) (n : ℕ) (d : Kind) → T (small l) → d.most ≤ 32 → (get_or l n d).most ≤ 32
most_small [] n d t h = h
most_small (k ∷ l) zero d t h = leb→le k.most 32 (and_left (leb k.most 32) (small l) t)
most_small (k ∷ l) (suc n) d t h = most_small l n d (and_right (leb k.most 32) (small l) t) h

most_operands : (k : ℕ) → (kind_at k).most ≤ 32
unfolding kind_at kinds
most_operands k = most_small kinds k (kind_at 29) tt (omega arith)

arity_few : (k n : ℕ) → T (operands_ok k n) → n ≤ 32
unfolding operands_ok arity_ok
arity_few k n t =
    let a = leb→le n (kind_at k).most (and_right (leb (kind_at k).fewest n) (leb n (kind_at k).most) (and_right (leb Neg k) (leb (kind_at k).fewest n && leb n (kind_at k).most) t)) in
    let b = most_operands k in
    omega arith

pub fields_few : (i : ℕ) (r : Row) → T (row_ok i r) → length (row_fields r) ≤ 32
unfolding row_ok row_fields
fields_few i (row_sym s) t = name_short s t
fields_few i (row_const (pos n)) t = omega arith
fields_few i (row_const (negsuc n)) t = omega arith
fields_few i (row_op k ns) t = arity_few k (length ns) (and_left (operands_ok k (length ns)) (every (λ n. ltb n i) ns) t)

-- so its words are 35
pub words_long : (r : Row) → length (row_fields r) ≤ 32 → length (row_words r) ≡ 35
unfolding row_words
words_long r h =
    let a = length-append (row_fields r) (replicate (32 - length (row_fields r)) 0) in
    let b = length-replicate {A = ℕ} (32 - length (row_fields r)) 0 in
    omega arith

-- ---- and it is read back

pub row_number : (k : ℕ) (ns : List ℕ) → Neg ≤ k → row_by k ns ≡ row_op k ns
unfolding row_by
row_number zero ns h = absurd (omega arith)
row_number (suc zero) ns h = absurd (omega arith)
row_number (suc (suc k)) ns h = refl

op_back : (k : ℕ) (ns : List ℕ) → Neg ≤ k → row_by (row_kind (row_op k ns) + row_default (row_op k ns)) ns ≡ row_op k ns
unfolding row_kind row_default
op_back k ns h = go (eqb k SelectOr) (eqb→eq k SelectOr)
  where
    go : (b : Bool) → (T b → k ≡ SelectOr) → row_by (cond b Select k + cond b 1 0) ns ≡ row_op k ns
    go true e = row_number SelectOr ns (omega arith) ∙ ap (λ (j : ℕ). row_op j ns) (sym (e tt))
    go false e = ap (λ (j : ℕ). row_by j ns) (add-zero k) ∙ row_number k ns h

by_back : (i : ℕ) (r : Row) → T (row_ok i r) → row_by (row_kind r + row_default r) (row_fields r) ≡ r
unfolding row_kind row_default row_fields row_by signed row_ok operands_ok
by_back i (row_sym s) t = refl
by_back i (row_const (pos n)) t = refl
by_back i (row_const (negsuc n)) t = refl
by_back i (row_op k ns) t =
    op_back k ns (leb→le Neg k (and_left (leb Neg k) (arity_ok k (length ns)) (and_left (leb Neg k && arity_ok k (length ns)) (every (λ n. ltb n i) ns) t)))

pub row_back : (i : ℕ) (r : Row) → T (row_ok i r) → row_of (row_words r) ≡ r
unfolding row_of row_words
row_back i r t =
    ap (λ (f : List ℕ). row_by (row_kind r + row_default r) f) (take-append_seam (row_fields r) (replicate (32 - length (row_fields r)) 0)) ∙ by_back i r t

pub table_long : (i : ℕ) (l : List Row) → T (rows_ok i l) → length (table_words l) ≡ length l * 35
unfolding rows_ok table_words
table_long i [] t = refl
table_long i (r ∷ l) t =
    let a = length-append (row_words r) (table_words l) in
    let b = words_long r (fields_few i r (and_left (row_ok i r) (rows_ok (suc i) l) t)) in
    let c = table_long (suc i) l (and_right (row_ok i r) (rows_ok (suc i) l) t) in
    omega arith

pub rows_back : (i : ℕ) (l : List Row) → T (rows_ok i l) → rows_of (length l) (table_words l) ≡ l
unfolding rows_ok table_words rows_of
rows_back i [] t = refl
rows_back i (r ∷ l) t =
    let u = and_left (row_ok i r) (rows_ok (suc i) l) t in
    let n = words_long r (fields_few i r u) in
    ap₂ ◌∷◌ (ap row_of (take_at (row_words r) (table_words l) 35 n) ∙ row_back i r u)
    (ap (λ (ws : List ℕ). rows_of (length l) ws) (drop_at (row_words r) (table_words l) 35 n) ∙ rows_back (suc i) l (and_right (row_ok i r) (rows_ok (suc i) l) t))

-- ---- 9 lets through the words of loadable tables, and no others

pub record Laid (ws ns : List ℕ) : Type 0 where
  pub table : Table
  pub loads : T (loadable table)
  pub words : ws ≡ table_words table.rows
  pub roots : ns ≡ table.roots

pub loadable_domain : (t : Table) → T (loadable t) → T (in_domain t)
unfolding loadable
loadable_domain t h = and_left (in_domain t) (sheet_fits t) h

pub table_back : (t : Table) → T (in_domain t) → table_of (table_words t.rows) t.roots ≡ t
unfolding table_of
table_back t h =
    let r = (domain t h).good_rows in
    let n : length (table_words t.rows) / 35 ≡ length t.rows = ap (λ (m : ℕ). m / 35) (table_long 0 t.rows r) ∙ mul-div_cancel (length t.rows) (omega arith) in
    ap (λ (l : List Row). record { rows = l; roots = t.roots }) (ap (λ (m : ℕ). rows_of m (table_words t.rows)) n ∙ rows_back 0 t.rows r)

pub laid_out_sound : (ws ns : List ℕ) → T (laid_out ws ns) → Laid ws ns
unfolding laid_out table_of
laid_out_sound ws ns t =
    let e = eq_bytes (table_words (table_of ws ns).rows) ws in
    record {
      table = table_of ws ns;
      loads = and_right e (loadable (table_of ws ns)) t;
      words = sym (eq_bytes_sound (table_words (table_of ws ns).rows) ws (and_left e (loadable (table_of ws ns)) t));
      roots = refl;
    }

pub laid_out_complete : (ws ns : List ℕ) → Laid ws ns → T (laid_out ws ns)
unfolding laid_out
laid_out_complete ws ns L =
    let t = L.table in
    let b : table_of ws ns ≡ t = ap₂ table_of L.words L.roots ∙ table_back t (loadable_domain t L.loads) in
    subst (λ (u : Table). T (eq_bytes (table_words u.rows) ws && loadable u)) (sym b)
    (and_both (eq_bytes (table_words t.rows) ws) (loadable t)
    (subst (λ (l : List ℕ). T (eq_bytes (table_words t.rows) l)) (sym L.words) (eq_bytes_refl (table_words t.rows))) L.loads)

pub laid_out_passes : (ws ns : List ℕ) → T (laid_out ws ns) → T (passes (trees (table_of ws ns)))
unfolding laid_out
laid_out_passes ws ns t = loadable_passes (table_of ws ns) (and_right (eq_bytes (table_words (table_of ws ns).rows) ws) (loadable (table_of ws ns)) t)

-- ---- rows among words

pub rows_long : (n : ℕ) (ws : List ℕ) → length (rows_of n ws) ≡ n
unfolding rows_of
rows_long zero ws = refl
rows_long (suc n) ws = ap suc (rows_long n (drop 35 ws))

pub row_room : (ws : List ℕ) → drop 3 (take 35 ws) ≡ take 32 (drop 3 ws)
row_room [] = refl
row_room (a ∷ []) = refl
row_room (a ∷ (b ∷ [])) = refl
row_room (a ∷ (b ∷ (c ∷ l))) = refl

pub row_held : (n : ℕ) (l : List ℕ) → take n (take 32 l) ≡ take (min n 32) l
row_held n l = go (leb n 32) refl
  where
    go : (b : Bool) → leb n 32 ≡ b → take n (take 32 l) ≡ take (min n 32) l
    go true e =
        let h = leb-true n 32 e in
        let m : n ≡ min n 32 = omega arith in
        take-take n 32 l h ∙ ap (λ (k : ℕ). take k l) m
    go false e =
        let h = leb-false n 32 e in
        let m : 32 ≡ min n 32 = omega arith in
        take_all n (take 32 l) (let q = length-take 32 l in omega arith) ∙ ap (λ (k : ℕ). take k l) m

pub row_part : (n : ℕ) (ws : List ℕ) → take n (drop 3 (take 35 ws)) ≡ take (min n 32) (drop 3 ws)
row_part n ws = ap (take n) (row_room ws) ∙ row_held n (drop 3 ws)
