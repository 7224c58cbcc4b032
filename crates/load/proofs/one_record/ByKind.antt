-- What a record's fields give by its kind, in the order of the code's tests. Assumes nothing.
use Rattle.std.specs.Prelude as std
use Rattle.std.specs.Prelude.{Some, None}
use Prim.Native.Nat.{ℕ, suc, ◌+◌, ◌-◌, ◌≤◌, ◌<◌}
use mathlib.Core.Path.{◌≡◌, refl, sym, ◌∙◌, ap, subst}
use mathlib.Core.Bool.{Bool, true, false, not, ◌&&◌, ◌||◌, cond}
use mathlib.Core.Option.{Option, none, some}
use mathlib.Core.List.{List, [], ◌∷◌, ◌++◌}
use native.Mathlib.Omega.{arith}
use borrow.Author.Tests.{lt-ltb, le-ltb, lt-leb, le-leb, eq-eqb, ne_eqb, leb-false}
use lib.IntN.{ℤ, pos, negsuc}
use lib.Dec.{T, eqb, leb, ltb, leb→le}
use lib.ListN.{length, get_or, take, drop, set, replicate}
use lib.Seq.{get_or-drop}
use borrow.Rule.Slice.PartMut.{put_mid}
use Rattle.spec_tree.specs.Outcome.{Outcome, refused, ◌at_record◌}
use Rattle.spec_tree.specs.Bytes.{every}
use Rattle.spec_tree.proofs.Logic.{and_left}
use Rattle.spec_tree.specs.Symbol.{is_letter, is_digit, is_name}
use Rattle.spec_tree.specs.Rows.{Row, row_sym, row_const, row_op}
use Rattle.spec_tree.specs.Layout.{row_kind, row_default, row_fields, row_words}
use Rattle.spec_sheet.specs.Sheet.{Root, constant, numbers}
use Rattle.load.specs.fields.Copy.{has_room, copied}
use Rattle.load.specs.declared.numerals.Constant.{Constant}
use Rattle.load.specs.numerals.Values.{constant_answer, signed}
use Rattle.node_rows.proofs.names.Leaves.{name_by}
use Rattle.load.specs.one_record.Item.{Item, row_item, root_item, numbers_item, fields_item}
use Rattle.load.specs.one_record.Reading.{Follows, Writes, capped_all}
use Rattle.load.specs.one_record.Reading as read
use Rattle.load.proofs.one_record.Writing.{AllNumbers, all_numbers}
use Rattle.load.proofs.one_record.Fronts.{lent_long, back_long, part_is, words_are, cap_below, cap_same, capped_long}

-- ---- room for one more

module _ (rows roots : ℕ) (old new : List ℕ) where
  pub row_follows : (x : Row) → rows < 1024 → new ≡ row_words x ++ drop 35 old → Follows (row_item 0 rows roots x) old read.Row new
  unfolding row_item
  row_follows x h e = rw (lt-ltb rows 1024 h) (refl, e)

  pub row_full : (x : Row) → 1024 ≤ rows → length new ≡ length old → Follows (row_item 0 rows roots x) old (read.Refused 6) new
  unfolding row_item
  row_full x h e = rw (le-ltb rows 1024 h) (refl, e)

  pub root_follows : (k : ℕ) → roots < 64 → length new ≡ length old → Follows (root_item 0 rows roots k) old (read.Root k) new
  unfolding root_item
  root_follows k h e = rw (lt-ltb roots 64 h) (refl, e)

  pub root_full : (k : ℕ) → 64 ≤ roots → length new ≡ length old → Follows (root_item 0 rows roots k) old (read.Refused 6) new
  unfolding root_item
  root_full k h e = rw (le-ltb roots 64 h) (refl, e)

-- ---- a symbol

name_short : (s : List ℕ) → 32 < length s → is_name s ≡ false
name_short s h = rw (name_by s, lt-leb (length s) 32 h) (ends (eqb (length s) 0) (is_letter (get_or s 0 0)) (every (λ c. is_letter c || is_digit c) (drop 1 s)))
  where
    ends : (a b c : Bool) → (not a && (b && (c && false))) ≡ false
    ends true b c = refl
    ends false false c = refl
    ends false true false = refl
    ends false true true = refl

no_room : (s lent : List ℕ) → 32 ≤ length lent → has_room s lent ≡ false → 32 < length s
no_room s lent h e = go (leb (length s) 32) (λ t. leb→le (length s) 32 t) (leb-false (length s) 32) e
  where
    go : (b : Bool) → (T b → length s ≤ 32) → (b ≡ false → 32 < length s) → (b && leb (length s) (length lent)) ≡ false → 32 < length s
    go false p q e = q refl
    go true p q e = let k = p tt in let f = sym (le-leb (length s) (length lent) (omega arith)) ∙ e in absurd (let z : ◌≡◌ {A = ℕ} 0 1 = cc in omega arith)

module _ (s : List ℕ) (rows : ℕ) (old new : List ℕ) (same : length new ≡ length old) where
  pub name_bad : is_name s ≡ false → Follows (fields_item 0 rows 0 0 (s ∷ [])) old (read.Refused 3) new
  unfolding fields_item
  name_bad e = rw e (refl, same)

  pub name_none : (lent : List ℕ) → 32 ≤ length lent → has_room s lent ≡ false → Follows (fields_item 0 rows 0 0 (s ∷ [])) old (read.Refused 3) new
  name_none lent h e = name_bad (name_short s (no_room s lent h e))

  pub name_full : is_name s ≡ true → 1024 ≤ rows → Follows (fields_item 0 rows 0 0 (s ∷ [])) old (read.Refused 6) new
  unfolding fields_item
  name_full e h = rw e (row_full rows 0 old new (row_sym s) h same)

pub name_row : (s : List ℕ) (rows : ℕ) (old new : List ℕ) → is_name s ≡ true → rows < 1024 → new ≡ 0 ∷ (0 ∷ (length s ∷ ((s ++ replicate (32 - length s) 0) ++ drop 35 old)))
    → Follows (fields_item 0 rows 0 0 (s ∷ [])) old read.Row new
unfolding fields_item row_words row_kind row_default row_fields
name_row s rows old new e h w = rw e (row_follows rows 0 old new (row_sym s) h w)

-- in the code's words: a name copied into a cleared row, tested there
module _ (s : List ℕ) (rows : ℕ) (old cl : List ℕ) (clear : cl ≡ replicate 35 0 ++ drop 35 old) (long : 35 ≤ length old) (x : List ℕ) (room : Bool)
    (p : room ≡ has_room s (take (length cl - 3) (drop 3 cl))) (w : x ≡ copied s (take (length cl - 3) (drop 3 cl))) (same : length x ≡ length (take (length cl - 3) (drop 3 cl))) where
  abbrev lent_words : List ℕ
  lent_words = take (length cl - 3) (drop 3 cl)

  abbrev row_now : List ℕ
  row_now = put_mid 3 (length cl - 3) cl x

  row_same : length row_now ≡ length old
  row_same = back_long old cl clear long x same

  pub symbol_long : room ≡ false → Follows (fields_item 0 rows 0 0 (s ∷ [])) old (read.Refused 3) row_now
  symbol_long e = name_none s rows old row_now row_same lent_words (omega (arith, lent_long old cl clear long)) (sym p ∙ e)

  module _ (y : room ≡ true) where
    fits_room : has_room s lent_words ≡ true
    fits_room = sym p ∙ y

    few_bytes : length s ≤ 32
    few_bytes = leb→le (length s) 32 (and_left (leb (length s) 32) (leb (length s) (length lent_words)) (subst T (sym fits_room) tt))

    placed : x ≡ s ++ drop (length s) lent_words
    placed = w ∙ ap (λ (b : Bool). cond b (s ++ drop (length s) lent_words) lent_words) fits_room

    name_part : take ((length s + 3) - 3) (drop 3 row_now) ≡ s
    name_part = part_is old cl clear long x s (length s) few_bytes refl placed

    module _ (b : Bool) (t : b ≡ is_name (take ((length s + 3) - 3) (drop 3 row_now))) where
      tested_name : is_name s ≡ b
      tested_name = sym (t ∙ ap is_name name_part)

      pub symbol_bad : b ≡ false → Follows (fields_item 0 rows 0 0 (s ∷ [])) old (read.Refused 3) row_now
      symbol_bad e = name_bad s rows old row_now row_same (tested_name ∙ e)

      pub symbol_full : b ≡ true → 1024 ≤ rows → Follows (fields_item 0 rows 0 0 (s ∷ [])) old (read.Refused 6) row_now
      symbol_full e h = name_full s rows old row_now row_same (tested_name ∙ e) h

      pub symbol_row : b ≡ true → rows < 1024 → (new : List ℕ) → new ≡ 0 ∷ (0 ∷ (length s ∷ drop 3 row_now)) → Follows (fields_item 0 rows 0 0 (s ∷ [])) old read.Row new
      symbol_row e h new f =
          name_row s rows old new (tested_name ∙ e) h (f ∙ ap (λ (l : List ℕ). 0 ∷ (0 ∷ (length s ∷ l))) (words_are old cl clear long x s (length s) few_bytes refl placed))

-- ---- a constant

module _ (s : List ℕ) (rows : ℕ) (old : List ℕ) where
  pub constant_bad : None ≡ constant_answer (constant s) → Follows (fields_item 0 rows 0 1 (s ∷ [])) old (read.Refused 4) old
  unfolding fields_item
  constant_bad e = go (constant s) e
    where
      go : (o : Option ℤ) → None ≡ constant_answer o → Follows (elim o [ none ↦ refused (4 at_record 0) | some c ↦ row_item 0 rows 0 (row_const c) ]) old (read.Refused 4) old
      go none e = (refl, refl)
      go (some (pos n)) e = absurd (let z : ◌≡◌ {A = ℕ} 0 1 = cc in omega arith)
      go (some (negsuc n)) e = absurd (let z : ◌≡◌ {A = ℕ} 0 1 = cc in omega arith)

  module _ (g n : ℕ) (e : Some (signed g n) ≡ constant_answer (constant s)) where
    pub constant_full : 1024 ≤ rows → Follows (fields_item 0 rows 0 1 (s ∷ [])) old (read.Refused 6) old
    unfolding fields_item
    constant_full h = go (constant s) e
      where
        go : (o : Option ℤ) → Some (signed g n) ≡ constant_answer o → Follows (elim o [ none ↦ refused (4 at_record 0) | some c ↦ row_item 0 rows 0 (row_const c) ]) old (read.Refused 6) old
        go none e = absurd (let z : ◌≡◌ {A = ℕ} 0 1 = cc in omega arith)
        go (some c) e = row_full rows 0 old old (row_const c) h refl

    -- a cleared row, its first words, and sign and size
    pub constant_row : rows < 1024 → (cl head : List ℕ) → cl ≡ replicate 35 0 ++ drop 35 old → head ≡ 1 ∷ (0 ∷ (2 ∷ drop 3 cl))
        → Follows (fields_item 0 rows 0 1 (s ∷ [])) old read.Row (set (set head 3 g) 4 n)
    unfolding fields_item row_words row_kind row_default row_fields
    constant_row h cl head p q = go (constant s) e
      where
        words : set (set head 3 g) 4 n ≡ 1 ∷ (0 ∷ (2 ∷ (g ∷ (n ∷ (replicate 30 0 ++ drop 35 old)))))
        words = ap (λ (l : List ℕ). set (set l 3 g) 4 n) (q ∙ ap (λ (l : List ℕ). 1 ∷ (0 ∷ (2 ∷ drop 3 l))) p)

        with_size : (a b : ℕ) → g ≡ a → n ≡ b → set (set head 3 g) 4 n ≡ 1 ∷ (0 ∷ (2 ∷ (a ∷ (b ∷ (replicate 30 0 ++ drop 35 old)))))
        with_size a b u v = words ∙ ap (λ (x : ℕ). 1 ∷ (0 ∷ (2 ∷ (x ∷ (n ∷ (replicate 30 0 ++ drop 35 old)))))) u ∙ ap (λ (x : ℕ). 1 ∷ (0 ∷ (2 ∷ (a ∷ (x ∷ (replicate 30 0 ++ drop 35 old)))))) v

        same : (x : Constant) → Some (signed g n) ≡ Some x → signed g n ≡ x
        same x e = cc

        go : (o : Option ℤ) → Some (signed g n) ≡ constant_answer o
            → Follows (elim o [ none ↦ refused (4 at_record 0) | some c ↦ row_item 0 rows 0 (row_const c) ]) old read.Row (set (set head 3 g) 4 n)
        go none e = absurd (let z : ◌≡◌ {A = ℕ} 0 1 = cc in omega arith)
        go (some (pos m)) e = row_follows rows 0 old (set (set head 3 g) 4 n) (row_const (pos m)) h (with_size 0 m (ap (λ (x : Constant). x.sign) (same (signed 0 m) e)) (ap (λ (x : Constant). x.size) (same (signed 0 m) e)))
        go (some (negsuc m)) e = row_follows rows 0 old (set (set head 3 g) 4 n) (row_const (negsuc m)) h (with_size 1 (suc m) (ap (λ (x : Constant). x.sign) (same (signed 1 (suc m)) e)) (ap (λ (x : Constant). x.size) (same (signed 1 (suc m)) e)))

-- ---- numbers

module _ (rows roots k : ℕ) (fs : List (List ℕ)) (large : 1 < k) where
  fields_by : ◌≡◌ {A = Outcome Item} (fields_item 0 rows roots k fs) (elim (numbers fs) [ none ↦ refused (2 at_record 0) | some ns ↦ numbers_item 0 rows roots k ns ])
  unfolding fields_item
  fields_by = go (eqb k 0) (eqb k 1) (ne_eqb k 0 (λ e. omega arith)) (ne_eqb k 1 (λ e. omega arith))
    where
      go : (a b : Bool) → a ≡ false → b ≡ false
          → ◌≡◌ {A = Outcome Item}
          (elim a [
            | true ↦ cond (is_name (get_or fs 0 [])) (row_item 0 rows roots (row_sym (get_or fs 0 []))) (refused (3 at_record 0))
            | false ↦ elim b [
              | true ↦ elim (constant (get_or fs 0 [])) [ none ↦ refused (4 at_record 0) | some c ↦ row_item 0 rows roots (row_const c) ]
              | false ↦ elim (numbers fs) [ none ↦ refused (2 at_record 0) | some ns ↦ numbers_item 0 rows roots k ns ]
            ]
          ])
          (elim (numbers fs) [ none ↦ refused (2 at_record 0) | some ns ↦ numbers_item 0 rows roots k ns ])
      go true b p q = absurd (let z : ◌≡◌ {A = ℕ} 0 1 = cc in omega arith)
      go false true p q = absurd (let z : ◌≡◌ {A = ℕ} 0 1 = cc in omega arith)
      go false false p q = refl

  fields_numbers : (ns : List ℕ) → numbers fs ≡ some ns → fields_item 0 rows roots k fs ≡ numbers_item 0 rows roots k ns
  fields_numbers ns e = fields_by ∙ rw e

  numbers_at : (ns : List ℕ) (b c : Bool) → every (λ m. ltb m rows) ns ≡ b → eqb k Root ≡ c
      → ◌≡◌ {A = Outcome Item} (numbers_item 0 rows roots k ns)
      (elim b [ true ↦ cond c (root_item 0 rows roots (get_or ns 0 0)) (row_item 0 rows roots (row_op k ns)) | false ↦ refused (5 at_record 0) ])
  unfolding numbers_item
  numbers_at ns b c p q =
      ap (λ (b : Bool). elim b as (λ _. Outcome Item) [ true ↦ cond (eqb k Root) (root_item 0 rows roots (get_or ns 0 0)) (row_item 0 rows roots (row_op k ns)) | false ↦ refused (5 at_record 0) ]) p
      ∙ ap (λ (c : Bool). elim b as (λ _. Outcome Item) [ true ↦ cond c (root_item 0 rows roots (get_or ns 0 0)) (row_item 0 rows roots (row_op k ns)) | false ↦ refused (5 at_record 0) ]) q

  pub numbers_bad : (lent x old new : List ℕ) (r : std.Option ℕ) → Writes (numbers fs) lent r x → r ≡ None → length new ≡ length old
      → Follows (fields_item 0 rows roots k fs) old (read.Refused 2) new
  numbers_bad lent x old new r w e same = rw fields_by (go (numbers fs) (subst (λ (a : std.Option ℕ). Writes (numbers fs) lent a x) e w))
    where
      go : (q : Option (List ℕ)) → Writes q lent None x
          → Follows (elim q [ none ↦ refused (2 at_record 0) | some ns ↦ numbers_item 0 rows roots k ns ]) old (read.Refused 2) new
      go none w = (refl, same)
      go (some ns) w = absurd (let f = w.0 in let z : ◌≡◌ {A = ℕ} 0 1 = cc in omega arith)

  module _ (small : rows ≤ 1000000) (few : length fs ≤ 32) (old cl : List ℕ) (clear : cl ≡ replicate 35 0 ++ drop 35 old) (long : 35 ≤ length old) (x : List ℕ) (r : std.Option ℕ) (n : ℕ)
      (w : Writes (numbers fs) (take (length cl - 3) (drop 3 cl)) r x) (e : r ≡ Some n) (kept : length x ≡ length (take (length cl - 3) (drop 3 cl))) where
    all : AllNumbers fs (take (length cl - 3) (drop 3 cl)) n x
    all = all_numbers fs (take (length cl - 3) (drop 3 cl)) n x (subst (λ (a : std.Option ℕ). Writes (numbers fs) (take (length cl - 3) (drop 3 cl)) a x) e w)

    abbrev now_is : List ℕ
    now_is = put_mid 3 (length cl - 3) cl x

    same : length now_is ≡ length old
    same = back_long old cl clear long x kept

    pub few_numbers : n ≤ 32
    few_numbers = let f = all.fields_many in omega arith

    pub numbers_fit : n + 3 ≤ length now_is
    numbers_fit = omega (arith, few_numbers, same)

    ns_many : n ≡ length (capped_all all.ns)
    ns_many = all.many ∙ sym (capped_long all.ns)

    part : take ((n + 3) - 3) (drop 3 now_is) ≡ capped_all all.ns
    part = part_is old cl clear long x (capped_all all.ns) n few_numbers ns_many all.words

    module _ (b : Bool) (t : b ≡ every (λ m. ltb m rows) (take ((n + 3) - 3) (drop 3 now_is))) where
      tested : b ≡ every (λ m. ltb m rows) all.ns
      tested = t ∙ ap (λ (l : List ℕ). every (λ m. ltb m rows) l) part ∙ cap_below rows small all.ns

      pub numbers_late : b ≡ false → Follows (fields_item 0 rows roots k fs) old (read.Refused 5) now_is
      numbers_late f = rw (fields_numbers all.ns all.are, numbers_at all.ns false (eqb k Root) (sym tested ∙ f) refl) (refl, same)

      module _ (yes : b ≡ true) where
        uncapped : capped_all all.ns ≡ all.ns
        uncapped = cap_same rows small all.ns (subst T (sym yes ∙ tested) tt)

        as_root : k ≡ Root → fields_item 0 rows roots k fs ≡ root_item 0 rows roots (get_or all.ns 0 0)
        as_root q = fields_numbers all.ns all.are ∙ numbers_at all.ns true true (sym tested ∙ yes) (eq-eqb k Root q)

        as_row : (k ≡ Root → ⊥) → fields_item 0 rows roots k fs ≡ row_item 0 rows roots (row_op k all.ns)
        as_row q = fields_numbers all.ns all.are ∙ numbers_at all.ns true false (sym tested ∙ yes) (ne_eqb k Root q)

        first_is : get_or now_is 3 0 ≡ get_or all.ns 0 0
        first_is = go all.ns (words_are old cl clear long x (capped_all all.ns) n few_numbers ns_many all.words ∙ ap (λ (l : List ℕ). (l ++ replicate (32 - length l) 0) ++ drop 35 old) uncapped)
          where
            go : (l : List ℕ) → drop 3 now_is ≡ (l ++ replicate (32 - length l) 0) ++ drop 35 old → get_or now_is 3 0 ≡ get_or l 0 0
            go [] d = sym (get_or-drop 3 now_is 0 0) ∙ ap (λ (m : List ℕ). get_or m 0 0) d
            go (a ∷ l) d = sym (get_or-drop 3 now_is 0 0) ∙ ap (λ (m : List ℕ). get_or m 0 0) d

        pub root_past : k ≡ Root → 64 ≤ roots → Follows (fields_item 0 rows roots k fs) old (read.Refused 6) now_is
        root_past q h = rw (as_root q) (root_full rows roots old now_is (get_or all.ns 0 0) h same)

        pub root_read : k ≡ Root → roots < 64 → Follows (fields_item 0 rows roots k fs) old (read.Root (get_or now_is 3 0)) now_is
        root_read q h = rw (as_root q, first_is) (root_follows rows roots old now_is (get_or all.ns 0 0) h same)

        pub row_past : (k ≡ Root → ⊥) → 1024 ≤ rows → Follows (fields_item 0 rows roots k fs) old (read.Refused 6) now_is
        row_past q h = rw (as_row q) (row_full rows roots old now_is (row_op k all.ns) h same)

        pub row_read : (k ≡ Root → ⊥) → rows < 1024 → (new : List ℕ) → new ≡ cond (eqb k 28) 27 k ∷ (cond (eqb k 28) 1 0 ∷ (n ∷ drop 3 now_is))
            → Follows (fields_item 0 rows roots k fs) old read.Row new
        unfolding row_words row_kind row_default row_fields
        row_read q h new f =
            rw (as_row q)
            (row_follows rows roots old new (row_op k all.ns) h
            (f
            ∙ ap (λ (l : List ℕ). cond (eqb k 28) 27 k ∷ (cond (eqb k 28) 1 0 ∷ (n ∷ l))) (words_are old cl clear long x (capped_all all.ns) n few_numbers ns_many all.words)
            ∙ ap (λ (l : List ℕ). cond (eqb k 28) 27 k ∷ (cond (eqb k 28) 1 0 ∷ (n ∷ ((l ++ replicate (32 - length l) 0) ++ drop 35 old)))) uncapped
            ∙ ap (λ (m : ℕ). cond (eqb k 28) 27 k ∷ (cond (eqb k 28) 1 0 ∷ (m ∷ ((all.ns ++ replicate (32 - length all.ns) 0) ++ drop 35 old)))) all.many))
