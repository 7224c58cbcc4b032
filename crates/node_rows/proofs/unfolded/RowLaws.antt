-- The words of a table read row by row: what stands at each row's words. Assumes nothing.
use Prim.Native.Nat.{ℕ, zero, suc, ◌+◌, ◌-◌, ◌*◌, ◌≤◌, ◌<◌}
use mathlib.Core.Path.{◌≡◌, refl, sym, ap, ◌∙◌, subst}
use mathlib.Core.Bool.{Bool, true, false, not, cond}
use mathlib.Core.List.{List, [], ◌∷◌}
use native.Mathlib.Omega.{arith}
use native.Mathlib.Nat.{div-mul-le_self, add-zero, zero-add}
use lib.IntN.{ℤ, pos, negsuc}
use lib.ListN.{length, get_or, take, drop, replicate, length-append, length-take, length-drop, length-replicate, get_or-eq_default}
use lib.Seq.{take_at, drop_at, take-take, drop-drop, get_or-take, get_or-drop, take-append_seam}
use lib.Dec.{T, eqb, leb, leb→le, nleb→lt, eqb→eq}
use Rattle.spec_tree.specs.Kinds.{Kind, kinds, kind_at, arity_ok}
use Rattle.spec_tree.specs.Passes.{operands_ok}
use Rattle.spec_tree.specs.Rows.{Row, row_sym, row_const, row_op}
use Rattle.spec_tree.specs.Layout.{row_width, row_kind, row_default, row_fields, row_words, table_words, signed, row_by, row_of, rows_of, row_ok, rows_ok}
use Rattle.spec_tree.proofs.Logic.{and_left, and_right}
use Rattle.node_rows.specs.unfolded.Unfold.{row_count, rows_in, row_at, words_at, row_number, RowsLaid}
use Rattle.spec_tree.proofs.LayoutLaws.{rows_long}

-- ---- rows of words

pub next_row : (i : ℕ) (ws : List ℕ) → words_at (drop row_width ws) i ≡ words_at ws (suc i)
unfolding words_at
next_row i ws = let e : row_width + i * row_width ≡ suc i * row_width = omega arith in rw (drop-drop (i * row_width) row_width ws, e)

pub rows_of_at : (n : ℕ) (ws : List ℕ) (i : ℕ) (d : Row) → i < n → get_or (rows_of n ws) i d ≡ row_of (words_at ws i)
unfolding rows_of words_at
rows_of_at zero ws i d h = absurd (omega arith)
rows_of_at (suc n) ws zero d h = refl
rows_of_at (suc n) ws (suc i) d h = rows_of_at n (drop row_width ws) i d (omega arith) ∙ ap row_of (next_row i ws)

-- ---- a row has as many words as every other

constant_fields : (z : ℤ) → length (row_fields (row_const z)) ≡ 2
unfolding row_fields
constant_fields (pos n) = refl
constant_fields (negsuc n) = refl

by_few : (k : ℕ) (fs : List ℕ) → length fs ≤ 32 → length (row_fields (row_by k fs)) ≤ 32
unfolding row_by row_fields
by_few zero fs h = h
by_few (suc zero) fs h = omega (arith, constant_fields (signed (get_or fs 0 0) (get_or fs 1 0)))
by_few (suc (suc k)) fs h = h

row_few : (xs : List ℕ) → length xs ≤ row_width → length (row_fields (row_of xs)) ≤ 32
unfolding row_of
row_few xs h =
    by_few (get_or xs 0 0 + get_or xs 1 0) (take (get_or xs 2 0) (drop 3 xs)) (simp (length-take, length-drop) (omega arith))

row_words_long : (xs : List ℕ) → length xs ≤ row_width → length (row_words (row_of xs)) ≡ row_width
unfolding row_words
row_words_long xs h = let f = row_few xs h in simp (length-append, length-replicate) (omega arith)

at_most : (ws : List ℕ) (i : ℕ) → length (words_at ws i) ≤ row_width
unfolding words_at
at_most ws i = simp length-take (omega arith)

-- laid-out words are, row by row, their rows' words
row_whole : (n : ℕ) (ws : List ℕ) (i : ℕ) → table_words (rows_of n ws) ≡ ws → i < n → row_words (row_of (words_at ws i)) ≡ words_at ws i
unfolding rows_of table_words words_at
row_whole zero ws i e h = absurd (omega arith)
row_whole (suc n) ws i e h =
    let first = row_words (row_of (take row_width ws)) in
    let rest = table_words (rows_of n (drop row_width ws)) in
    let l : length first ≡ row_width = row_words_long (take row_width ws) (at_most ws 0) in
    go i h (sym (take_at first rest row_width l) ∙ ap (take row_width) e) λ j m. row_whole n (drop row_width ws) j (sym (drop_at first rest row_width l) ∙ ap (drop row_width) e) m
  where
    go :
        (i : ℕ) → i < suc n → row_words (row_of (take row_width ws)) ≡ take row_width ws
        → ((j : ℕ) → j < n → row_words (row_of (words_at (drop row_width ws) j)) ≡ words_at (drop row_width ws) j)
        → row_words (row_of (words_at ws i)) ≡ words_at ws i
    go zero h p q = p
    go (suc i) h p q = rw (← next_row i ws) (q i (omega arith))

-- ---- a row's test

row_tested : (j : ℕ) (l : List Row) (i : ℕ) (d : Row) → T (rows_ok j l) → i < length l → T (row_ok (j + i) (get_or l i d))
unfolding rows_ok
row_tested j [] i d t h = absurd (omega arith)
row_tested j (r ∷ l) zero d t h =
    let e : j + 0 ≡ j = omega arith in
    rw e (and_left (row_ok j r) (rows_ok (suc j) l) t)
row_tested j (r ∷ l) (suc i) d t h =
    let e : j + suc i ≡ suc j + i = omega arith in
    rw e (row_tested (suc j) l i d (and_right (row_ok j r) (rows_ok (suc j) l) t) (omega arith))

-- the kinds end with 28
kinds_end : (k n : ℕ) → 28 < k → T (arity_ok k n) → ⊥
unfolding arity_ok kind_at kinds
kinds_end k n h t =
    let d : kind_at k ≡ past = get_or-eq_default kinds past {n = k} (omega arith) in
    let f : (kind_at k).fewest ≡ 1 = ap (λ (x : Kind). x.fewest) d in
    let m : (kind_at k).most ≡ 0 = ap (λ (x : Kind). x.most) d in
    let p = leb→le (kind_at k).fewest n (and_left (leb (kind_at k).fewest n) (leb n (kind_at k).most) t) in
    let q = leb→le n (kind_at k).most (and_right (leb (kind_at k).fewest n) (leb n (kind_at k).most) t) in
    omega arith
  where
    past : Kind
    past = record { word = []; printed = []; fewest = 1; most = 0 }

pub few_kinds : (k n : ℕ) → T (operands_ok k n) → (2 ≤ k) × (k ≤ 28)
unfolding operands_ok
few_kinds k n t =
    (leb→le 2 k (and_left (leb 2 k) (arity_ok k n) t), go (leb k 28) (leb→le k 28) (nleb→lt k 28) (and_right (leb 2 k) (arity_ok k n) t))
  where
    go : (b : Bool) → (T b → k ≤ 28) → (T (not b) → 28 < k) → T (arity_ok k n) → k ≤ 28
    go true f g a = f tt
    go false f g a = absurd (kinds_end k n (g tt) a)

default_is : (k : ℕ) (b : Bool) → (T b → k ≡ 28) → cond b 27 k + cond b 1 0 ≡ k
default_is k true e = sym (e tt)
default_is k false e = omega arith

number_is : (r : Row) → row_kind r + row_default r ≡ row_number r
unfolding row_kind row_default row_number
number_is (row_sym s) = refl
number_is (row_const c) = refl
number_is (row_op k ns) = default_is k (eqb k 28) (eqb→eq k 28)

-- ---- what stands at row i

-- words inside a run that is cut short further on
cut : (j n m : ℕ) (l : List ℕ) → j + n ≤ m → take n (drop j (take m l)) ≡ take n (drop j l)
cut zero n m l h = let e : n ≤ m = omega arith in take-take n m l e
cut (suc j) n zero l h = absurd (omega arith)
cut (suc j) n (suc m) [] h = refl
cut (suc j) n (suc m) (x ∷ l) h = cut j n m l (omega arith)

pub record Stands (ws : List ℕ) (i : ℕ) : Type 0 where
  pub inside : i * 35 + 35 ≤ length ws
  pub row : row_at ws i ≡ row_of (words_at ws i)
  pub words : row_words (row_at ws i) ≡ words_at ws i
  pub kind : get_or ws (i * 35) 0 + get_or ws (i * 35 + 1) 0 ≡ row_number (row_at ws i)
  pub count : get_or ws (i * 35 + 2) 0 ≡ length (row_fields (row_at ws i))
  pub most : length (row_fields (row_at ws i)) ≤ 32
  pub fields : take (length (row_fields (row_at ws i))) (drop (i * 35 + 3) ws) ≡ row_fields (row_at ws i)
  pub tested : T (row_ok i (row_at ws i))

word_at : (ws : List ℕ) (i j : ℕ) → j < 35 → get_or (words_at ws i) j 0 ≡ get_or ws (i * 35 + j) 0
unfolding words_at
word_at ws i j h = rw (get_or-take row_width (drop (i * row_width) ws) j 0 h, get_or-drop)

fields_are :
    (ws : List ℕ) (i : ℕ) (r : Row) → length (row_fields r) ≤ 32 → row_words r ≡ words_at ws i
    → take (length (row_fields r)) (drop (i * 35 + 3) ws) ≡ row_fields r
unfolding row_words words_at
fields_are ws i r h w =
    let n = length (row_fields r) in
    let c = cut 3 n row_width (drop (i * row_width) ws) (omega arith) in
    ap (take n) (sym (drop-drop 3 (i * row_width) ws)) ∙ sym c ∙ ap (λ (l : List ℕ). take n (drop 3 l)) (sym w)
    ∙ take-append_seam (row_fields r) (replicate (32 - n) 0)

pub stands : {ws : List ℕ} → RowsLaid ws → (i : ℕ) → i < row_count ws → Stands ws i
unfolding rows_in row_count row_at row_words
stands {ws} laid i h =
    let n = row_count ws in
    let at : row_at ws i ≡ row_of (words_at ws i) = rows_of_at n ws i (row_op 0 []) h in
    let w : row_words (row_at ws i) ≡ words_at ws i = rw at (row_whole n ws i laid.whole h) in
    let m : length (row_fields (row_at ws i)) ≤ 32 = rw at (row_few (words_at ws i) (at_most ws i)) in
    let r = row_at ws i in
    let g : (j : ℕ) → j < 35 → get_or (row_words r) j 0 ≡ get_or ws (i * 35 + j) 0 = λ j k. ap (λ (l : List ℕ). get_or l j 0) w ∙ word_at ws i j k in
    let k0 : row_kind r ≡ get_or ws (i * 35) 0 = g 0 (omega arith) ∙ ap (λ (j : ℕ). get_or ws j 0) (add-zero (i * 35)) in
    let k1 : row_default r ≡ get_or ws (i * 35 + 1) 0 = g 1 (omega arith) in
    let k2 : length (row_fields r) ≡ get_or ws (i * 35 + 2) 0 = g 2 (omega arith) in
    record {
      inside = omega (arith, div-mul-le_self (length ws) 35);
      row = at;
      words = w;
      kind = omega (arith, number_is r);
      count = sym k2;
      most = m;
      fields = fields_are ws i r m w;
      tested = subst (λ (j : ℕ). T (row_ok j r)) (zero-add i) (row_tested 0 (rows_in ws) i (row_op 0 []) laid.good (rw (rows_long n ws) h));
    }
