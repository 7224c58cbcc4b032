-- Symbols' rows among node rows as words, and the first row with a name, as code finds them (First). Assumes nothing.
use Prim.Native.Nat.{ℕ, zero, suc, ◌+◌, ◌*◌, ◌/◌, ◌%◌, ◌≤◌, ◌<◌, min}
use native.Mathlib.Omega.{arith}
use native.Mathlib.Numerals.{add-one}
use mathlib.Core.Path.{◌≡◌, refl, sym, ◌∙◌, ap}
use mathlib.Core.Bool.{Bool, true, false, not, ◌&&◌}
use mathlib.Core.List.{List, [], ◌∷◌}
use borrow.Author.Tests.{eq-eqb, ne_eqb}
use lib.IntN.{pos}
use lib.ListN.{length, get_or, take, drop, get_or-eq_default, drop_of_length-le}
use lib.Seq.{get_or-take, get_or-drop, drop-drop, drop-cons}
use lib.Dec.{eqb}
use Rattle.spec_tree.specs.Bytes.{eq_bytes}
use Rattle.spec_tree.specs.Rows.{Row, row_sym, row_const, row_op}
use Rattle.spec_tree.specs.Layout.{row_by, row_of, rows_of}
use Rattle.spec_tree.specs.Tokens.{kind_of, below_of, first_named, number_in, name_of_row, name_in}
use Rattle.spec_tree.proofs.TreeLaws.{eq_bytes_refl, alike, unlike}
use Rattle.spec_tree.proofs.Tests.{is_true}
use Rattle.laws.specs.answer.First.{is_symbol_row, has_name, none_named, first_row, first_word}
use Rattle.spec_tree.proofs.LayoutLaws.{rows_long, row_part}

-- ---- equal names, from the front

module _ (a b : List ℕ) (l : length a ≡ length b) (i : ℕ) (q : eq_bytes a b ≡ eq_bytes (drop i a) (drop i b)) where
  pub same_next : i < length a → get_or a i 0 ≡ get_or b i 0 → eq_bytes a b ≡ eq_bytes (drop (i + 1) a) (drop (i + 1) b)
  same_next h e =
      let k : i < length b = omega arith in
      q ∙ rw (drop-cons a i 0 h, drop-cons b i 0 k, add-one i) (alike (get_or a i 0) (get_or b i 0) (drop (suc i) a) (drop (suc i) b) e)

  pub same_stop : i < length a → (get_or a i 0 ≡ get_or b i 0 → ⊥) → false ≡ eq_bytes a b
  same_stop h n =
      let k : i < length b = omega arith in
      sym (q ∙ rw (drop-cons a i 0 h, drop-cons b i 0 k) (unlike (get_or a i 0) (get_or b i 0) (drop (suc i) a) (drop (suc i) b) n))

  pub same_end : length a ≤ i → true ≡ eq_bytes a b
  unfolding eq_bytes
  same_end h =
      let k : length b ≤ i = omega arith in
      sym (q ∙ rw (drop_of_length-le a {i = i} h, drop_of_length-le b {i = i} k))

-- ---- a row's kind and name in its words

abbrev nothing : Row
nothing = row_const (pos 0)

abbrev pub all_rows : List ℕ → List Row
all_rows ws = rows_of (length ws / 35) ws

rows_entry : (n : ℕ) (ws : List ℕ) (i : ℕ) (d : Row) → i < n → get_or (rows_of n ws) i d ≡ row_of (take 35 (drop (i * 35) ws))
unfolding rows_of
rows_entry zero ws i d h = absurd (omega arith)
rows_entry (suc n) ws zero d h = refl
rows_entry (suc n) ws (suc i) d h =
    let e : 35 + i * 35 ≡ suc i * 35 = omega arith in
    rows_entry n (drop 35 ws) i d (omega arith) ∙ ap (λ (l : List ℕ). row_of (take 35 l)) (drop-drop (i * 35) 35 ws ∙ ap (λ (m : ℕ). drop m ws) e)

no_symbol : (k : ℕ) (fields s : List ℕ) → 0 < k → (is_symbol_row (row_by k fields) ≡ false) × (has_name (row_by k fields) s ≡ false)
unfolding is_symbol_row has_name row_by
no_symbol zero fields s h = absurd (omega arith)
no_symbol (suc zero) fields s h = (refl, refl)
no_symbol (suc (suc k)) fields s h = (refl, refl)

module _ (ws : List ℕ) (i : ℕ) where
  abbrev row : Row
  row = get_or (all_rows ws) i nothing

  pub past_rows : length ws / 35 ≤ i → row ≡ nothing
  past_rows h = let l = rows_long (length ws / 35) ws in get_or-eq_default (all_rows ws) nothing {n = i} (omega arith)

  module _ (h : i < length ws / 35) where
    word_of_row : (k : ℕ) → k < 35 → get_or (take 35 (drop (i * 35) ws)) k 0 ≡ get_or ws (i * 35 + k) 0
    word_of_row k l = rw (get_or-take, get_or-drop)

    row_is : row ≡ row_by (get_or ws (i * 35) 0 + get_or ws (i * 35 + 1) 0) (take (min (get_or ws (i * 35 + 2) 0) 32) (drop (i * 35 + 3) ws))
    unfolding row_of
    row_is =
        let e : i * 35 + 0 ≡ i * 35 = omega arith in
        let f = drop-drop 3 (i * 35) ws in
        rw (rows_entry (length ws / 35) ws i nothing h, word_of_row 0 (omega arith), word_of_row 1 (omega arith), word_of_row 2 (omega arith), e, row_part (get_or ws (i * 35 + 2) 0) (drop (i * 35) ws), f)

    pub other_row : (s : List ℕ) → 0 < get_or ws (i * 35) 0 + get_or ws (i * 35 + 1) 0 → (is_symbol_row row ≡ false) × (has_name row s ≡ false)
    other_row s n =
        let p = no_symbol (get_or ws (i * 35) 0 + get_or ws (i * 35 + 1) 0) (take (min (get_or ws (i * 35 + 2) 0) 32) (drop (i * 35 + 3) ws)) s n in
        (ap is_symbol_row row_is ∙ p.0, ap (λ (r : Row). has_name r s) row_is ∙ p.1)

    pub symbol_row : get_or ws (i * 35) 0 ≡ 0 → get_or ws (i * 35 + 1) 0 ≡ 0 → (c : ℕ) → c ≡ min (get_or ws (i * 35 + 2) 0) 32 → row ≡ row_sym (take c (drop (i * 35 + 3) ws))
    unfolding row_by
    symbol_row k d c e = row_is ∙ rw (k, d, ← e)

-- ---- `named`

pub named_not : (ws : List ℕ) (i : ℕ) (s : List ℕ) → i < length ws / 35 → (get_or ws (i * 35) 0 ≡ 0 → ⊥) → false ≡ has_name (get_or (all_rows ws) i nothing) s
named_not ws i s h n = sym (other_row ws i h s (omega (arith, n))).1

pub named_no : (ws : List ℕ) (i : ℕ) (s : List ℕ) → i < length ws / 35 → (get_or ws (i * 35 + 1) 0 ≡ 0 → ⊥) → false ≡ has_name (get_or (all_rows ws) i nothing) s
named_no ws i s h n = sym (other_row ws i h s (omega (arith, n))).1

pub named_so :
    (ws : List ℕ) (i : ℕ) (s : List ℕ) → i < length ws / 35 → get_or ws (i * 35) 0 ≡ 0 → get_or ws (i * 35 + 1) 0 ≡ 0 → (c m : ℕ) → c ≡ min (get_or ws (i * 35 + 2) 0) 32 → m ≡ c
    → eq_bytes (take m (drop (i * 35 + 3) ws)) s ≡ has_name (get_or (all_rows ws) i nothing) s
unfolding has_name
named_so ws i s h k d c m e z = rw z (sym (ap (λ (r : Row). has_name r s) (symbol_row ws i h k d c e)))

-- ---- `none_named`

module _ (s : List ℕ) where
  pub none_some : (rows : List Row) (i n : ℕ) → i < n → i < length rows → has_name (get_or rows i nothing) s ≡ true → false ≡ none_named (take n rows) s
  unfolding none_named
  none_some [] i n h g e = absurd (omega arith)
  none_some (r ∷ l) i zero h g e = absurd (omega arith)
  none_some (r ∷ l) zero (suc n) h g e = rw e
  none_some (r ∷ l) (suc i) (suc n) h g e = go (has_name r s) (none_some l i n (omega arith) (omega arith) e)
    where
      go : (b : Bool) → false ≡ none_named (take n l) s → false ≡ (not b && none_named (take n l) s)
      go true q = refl
      go false q = q

  none_suc : (rows : List Row) (i : ℕ) → i < length rows → has_name (get_or rows i nothing) s ≡ false → none_named (take i rows) s ≡ true → none_named (take (suc i) rows) s ≡ true
  unfolding none_named
  none_suc [] i h e q = absurd (omega arith)
  none_suc (r ∷ l) zero h e q = rw e
  none_suc (r ∷ l) (suc i) h e q = go (has_name r s) q (λ t. none_suc l i (omega arith) e t)
    where
      go : (b : Bool) → (not b && none_named (take i l) s) ≡ true → (none_named (take i l) s ≡ true → none_named (take (suc i) l) s ≡ true) → (not b && none_named (take (suc i) l) s) ≡ true
      go true q f = absurd (let z : ◌≡◌ {A = ℕ} 0 1 = cc in omega arith)
      go false q f = f q

  pub none_more : (rows : List Row) (i : ℕ) → i < length rows → has_name (get_or rows i nothing) s ≡ false → none_named (take i rows) s ≡ true → none_named (take (i + 1) rows) s ≡ true
  none_more rows i h e q = rw (add-one i) (none_suc rows i h e q)

  pub none_yet : (rows : List Row) → none_named (take 0 rows) s ≡ true
  unfolding none_named
  none_yet rows = refl

  -- the first row with a name is at n exactly where none before it has it
  first_at : (k : ℕ) (rows : List Row) (n : ℕ) → n < length rows → has_name (get_or rows n nothing) s ≡ true → none_named (take n rows) s ≡ eqb (first_named k rows s) (k + n)
  unfolding none_named first_named has_name
  first_at k [] n h e = absurd (omega arith)
  first_at k (row_sym m ∷ l) zero h e =
      let z : k ≡ k + 0 = omega arith in
      rw (e, first_named) (sym (eq-eqb k (k + 0) z))
  first_at k (row_const c ∷ l) zero h e = absurd (let z : ◌≡◌ {A = ℕ} 0 1 = cc in omega arith)
  first_at k (row_op j ns ∷ l) zero h e = absurd (let z : ◌≡◌ {A = ℕ} 0 1 = cc in omega arith)
  first_at k (row_sym m ∷ l) (suc n) h e = go (eq_bytes m s) (first_at (suc k) l n (omega arith) e)
    where
      z : suc k + n ≡ k + suc n
      z = omega arith

      go : (b : Bool) → none_named (take n l) s ≡ eqb (first_named (suc k) l s) (suc k + n) → ◌≡◌ {A = Bool} (not b && none_named (take n l) s) (eqb (elim b [ true ↦ k | false ↦ first_named (suc k) l s ]) (k + suc n))
      go true q = sym (ne_eqb k (k + suc n) (λ y. omega (arith, y)))
      go false q = rw z at q
  first_at k (row_const c ∷ l) (suc n) h e = let z : suc k + n ≡ k + suc n = omega arith in rw z at (first_at (suc k) l n (omega arith) e)
  first_at k (row_op j ns ∷ l) (suc n) h e = let z : suc k + n ≡ k + suc n = omega arith in rw z at (first_at (suc k) l n (omega arith) e)

pub rows_many : (ws : List ℕ) → length (all_rows ws) ≡ length ws / 35
rows_many ws = rows_long (length ws / 35) ws

-- ---- `row_first`

unfit : (rows : List Row) (n : ℕ) → is_symbol_row (get_or rows n nothing) ≡ false → false ≡ first_row rows n
unfolding first_row
unfit rows n e = rw e

fit : (rows : List Row) (n : ℕ) (s : List ℕ) → n < length rows → get_or rows n nothing ≡ row_sym s → none_named (take n rows) s ≡ first_row rows n
unfolding first_row number_in name_in name_of_row is_symbol_row
fit rows n s h e = rw (e, first_at s 0 rows n h (rw e (unfold has_name in is_true (eq_bytes s s) (eq_bytes_refl s)))) (ap (eqb (first_named 0 rows s)) (let z : 0 + n ≡ n = omega arith in z))

module _ (ws : List ℕ) (n : ℕ) where
  pub first_past : length ws / 35 ≤ n → false ≡ first_row (all_rows ws) n
  first_past h = unfit (all_rows ws) n (rw (past_rows ws n h) (unfold is_symbol_row in refl))

  pub first_not : n < length ws / 35 → (get_or ws (n * 35) 0 ≡ 0 → ⊥) → false ≡ first_row (all_rows ws) n
  first_not h e = unfit (all_rows ws) n (other_row ws n h [] (omega (arith, e))).0

  pub first_no : n < length ws / 35 → (get_or ws (n * 35 + 1) 0 ≡ 0 → ⊥) → false ≡ first_row (all_rows ws) n
  first_no h e = unfit (all_rows ws) n (other_row ws n h [] (omega (arith, e))).0

  pub first_so :
      n < length ws / 35 → get_or ws (n * 35) 0 ≡ 0 → get_or ws (n * 35 + 1) 0 ≡ 0 → (c m : ℕ) → c ≡ min (get_or ws (n * 35 + 2) 0) 32 → m ≡ c
      → none_named (take n (all_rows ws)) (take m (drop (n * 35 + 3) ws)) ≡ first_row (all_rows ws) n
  first_so h k d c m e z = rw z (fit (all_rows ws) n (take c (drop (n * 35 + 3) ws)) (let l = rows_many ws in omega arith) (symbol_row ws n h k d c e))

-- ---- `word_first`

module _ (rows : List Row) (w : ℕ) where
  pub word_other : (kind_of w ≡ 0 → ⊥) → true ≡ first_word rows w
  unfolding first_word
  word_other h = rw (ne_eqb (kind_of w) 0 h)

  pub word_made : kind_of w ≡ 0 → (below_of w % 3 ≡ 0 → ⊥) → true ≡ first_word rows w
  unfolding first_word
  word_made h c = rw (eq-eqb (kind_of w) 0 h, ne_eqb (below_of w % 3) 0 c)

  pub word_listed : kind_of w ≡ 0 → below_of w % 3 ≡ 0 → first_row rows (below_of w / 3) ≡ first_word rows w
  unfolding first_word
  word_listed h c = rw (eq-eqb (kind_of w) 0 h, eq-eqb (below_of w % 3) 0 c)
