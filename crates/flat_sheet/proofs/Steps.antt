-- What a sheet's flat answer is from what load and extract told. Assumes nothing.
use Prim.Native.Nat.{ℕ, ◌*◌, ◌≤◌}
use native.Mathlib.Omega.{arith}
use mathlib.Core.Path.{◌≡◌, refl, sym, ap, ap₂, ◌∙◌, subst}
use mathlib.Core.Bool.{false}
use mathlib.Core.List.{List}
use lib.ListN.{length, take, drop, length-append}
use Rattle.spec_tree.specs.Outcome.{Outcome, ok, refused}
use Rattle.spec_tree.specs.Rows.{Table}
use Rattle.spec_tree.specs.Layout.{table_words}
use Rattle.spec_tree.proofs.LayoutLaws.{table_long}
use Rattle.spec_sheet.specs.Call.{load_call, rows_after, roots_after}
use Rattle.spec_cse.specs.Call.{Extracted, extract_call, table_after}
use Rattle.cse_flat.specs.Answers.{extraction_answer}
use Rattle.cse_flat.specs.Extraction as extraction
use Rattle.load.specs.Loaded.{Loaded}
use Rattle.load.specs.Loaded as loaded
use Rattle.load.specs.Loaded.{told as load_told}
use Rattle.std.specs.Prelude.{Result, Ok, Err}
use Rattle.refusal.specs.Numbers.{number_of}
use Rattle.load.specs.declared.Table as counts
use Rattle.load.specs.declared.Refused as refusing
use Rattle.load.specs.Loads.{answered, Loads}
use Rattle.flat_sheet.specs.FlatSheet.{extracted_from, from_extract, flat_answer, flat_table, Flattened}
use Rattle.flat_sheet.specs.Flat.{Flat}
use Rattle.flat_sheet.specs.Flat as flat
use Rattle.spec_tree.proofs.Lists.{front}
use Rattle.spec_sheet.proofs.Loadable.{loaded_domain}

-- ---- extract's answer

pub took_refused : (node : ℕ) (o : Outcome Extracted) (q : ℕ) → extraction.Refused q ≡ extraction_answer o → flat.Refused q 0 ≡ from_extract node o
unfolding extraction_answer
took_refused node (ok x) q e = absurd (let z : ◌≡◌ {A = ℕ} 0 1 = cc in omega arith)
took_refused node (refused r) q e = cc

pub took_rows : (node : ℕ) (o : Outcome Extracted) (n m : ℕ) → extraction.Rows n m ≡ extraction_answer o → flat.Rows node n ≡ from_extract node o
unfolding extraction_answer
took_rows node (ok x) n m e = cc
took_rows node (refused r) n m e = absurd (let z : ◌≡◌ {A = ℕ} 0 1 = cc in omega arith)

-- ---- load's

loaded_long : (words places : ℕ) (sheet : List ℕ) (t : Table) → load_call words places sheet ≡ ok t → length (table_words t.rows) ≡ length t.rows * 35
loaded_long words places sheet t e = table_long 0 t.rows (loaded_domain words places sheet t e).good_rows

module _ (words places : ℕ) (sheet old_rows old_roots new_rows new_roots : List ℕ) (got : Loaded) (L : Loads (load_call words places sheet) old_rows old_roots got new_rows new_roots) where
  -- the table that was loaded, in front of what was lent
  record Read (n m : ℕ) : Type 0 where
    table : Table
    loads : load_call words places sheet ≡ ok table
    words_are : take (35 * n) new_rows ≡ table_words table.rows
    roots_are : take m new_roots ≡ table.roots
    few : n ≤ 1024
    rows_fit : 35 * n ≤ length new_rows
    roots_fit : m ≤ length new_roots

  read : (n m : ℕ) → got ≡ loaded.Table n m → Read n m
  unfolding rows_after roots_after
  read n m e = go (load_call words places sheet) refl (sym e ∙ L.answer_is) L.rows_are L.roots_are
    where
      go : (o : Outcome Table) → load_call words places sheet ≡ o → loaded.Table n m ≡ answered o → new_rows ≡ rows_after o old_rows → new_roots ≡ roots_after o old_roots → Read n m
      go (refused r) f g h k = absurd (let z : ◌≡◌ {A = ℕ} 0 1 = cc in omega arith)
      go (ok t) f g h k =
          let a : n ≡ length t.rows = cc in
          let b : m ≡ length t.roots = cc in
          let c : 35 * n ≡ length (table_words t.rows) = omega (arith, loaded_long words places sheet t f, a) in
          record {
            table = t;
            loads = f;
            words_are = ap₂ take c h ∙ front (table_words t.rows) old_rows;
            roots_are = ap₂ take b k ∙ front t.roots old_roots;
            few = omega (arith, a, (loaded_domain words places sheet t f).few_rows);
            rows_fit = omega (arith, c, ap length h, length-append (table_words t.rows) (drop (length (table_words t.rows)) old_rows));
            roots_fit = omega (arith, b, ap length k, length-append t.roots (drop (length t.roots) old_roots));
          }

  pub read_fits : (n m : ℕ) → got ≡ loaded.Table n m → (35 * n ≤ length new_rows) × (m ≤ length new_roots)
  read_fits n m e = let R = read n m e in (R.rows_fit, R.roots_fit)

  pub read_few : (n m : ℕ) → got ≡ loaded.Table n m → n ≤ 1024
  read_few n m e = (read n m e).few

  module _ (f : Table → Outcome Extracted) (table : List ℕ) where
    pub not_loaded : (q i : ℕ) → got ≡ loaded.Refused q i → Flattened (load_call words places sheet) f old_rows old_roots table (flat.Refused q i) new_rows new_roots table
    not_loaded q i e = record { answer_is = go (load_call words places sheet) (sym e ∙ L.answer_is); rows_are = L.rows_are; roots_are = L.roots_are; table_is = same (load_call words places sheet) (sym e ∙ L.answer_is) }
      where
        go : (o : Outcome Table) → loaded.Refused q i ≡ answered o → flat.Refused q i ≡ flat_answer o f
        go (ok t) g = absurd (let z : ◌≡◌ {A = ℕ} 0 1 = cc in omega arith)
        go (refused r) g = cc

        same : (o : Outcome Table) → loaded.Refused q i ≡ answered o → table ≡ flat_table o f table
        same (ok t) g = absurd (let z : ◌≡◌ {A = ℕ} 0 1 = cc in omega arith)
        same (refused r) g = refl

  pub flattened :
      (n m work text : ℕ) (old new : List ℕ) (r : Flat) → got ≡ loaded.Table n m
      → (r ≡ from_extract (length (take (35 * n) new_rows)) (extract_call false work text (take (35 * n) new_rows) (take m new_roots) (length old)))
      × (new ≡ table_after (extract_call false work text (take (35 * n) new_rows) (take m new_roots) (length old)) old)
      → Flattened (load_call words places sheet) (extracted_from work text (length old)) old_rows old_roots old r new_rows new_roots new
  unfolding extracted_from
  flattened n m work text old new r e p =
      let R = read n m e in
      let t = R.table in
      let x = extract_call false work text in
      let same : x (take (35 * n) new_rows) (take m new_roots) (length old) ≡ x (table_words t.rows) t.roots (length old) =
      ap₂ (λ (ws ns : List ℕ). x ws ns (length old)) R.words_are R.roots_are in
      let a : r ≡ flat_answer (ok t) (extracted_from work text (length old)) = p.0 ∙ ap₂ from_extract (ap length R.words_are) same in
      let b : new ≡ flat_table (ok t) (extracted_from work text (length old)) old = p.1 ∙ ap (λ (o : Outcome Extracted). table_after o old) same in
      record {
        answer_is = subst (λ (o : Outcome Table). r ≡ flat_answer o (extracted_from work text (length old))) (sym R.loads) a;
        rows_are = L.rows_are;
        roots_are = L.roots_are;
        table_is = subst (λ (o : Outcome Table). new ≡ flat_table o (extracted_from work text (length old)) old) (sym R.loads) b;
      }

-- ---- the same by what `load` returned, by which of the two it is

module _ (words places : ℕ) (sheet old_rows old_roots new_rows new_roots : List ℕ) where
  abbrev FitsBy : Result counts.Table refusing.Refused → Type 0
  FitsBy (Ok t) = (t.rows ≤ 1024) × ((35 * t.rows ≤ length new_rows) × (t.roots ≤ length new_roots))
  FitsBy (Err e) = Unit {0}

  abbrev FlattenedBy : ℕ → ℕ → List ℕ → List ℕ → Flat → Result counts.Table refusing.Refused → Type 0
  FlattenedBy work text old new r (Ok t) =
      (r ≡ from_extract (length (take (35 * t.rows) new_rows)) (extract_call false work text (take (35 * t.rows) new_rows) (take t.roots new_roots) (length old)))
      × (new ≡ table_after (extract_call false work text (take (35 * t.rows) new_rows) (take t.roots new_roots) (length old)) old)
      → Flattened (load_call words places sheet) (extracted_from work text (length old)) old_rows old_roots old r new_rows new_roots new
  FlattenedBy work text old new r (Err e) =
      Flattened (load_call words places sheet) (extracted_from work text (length old)) old_rows old_roots old (flat.Refused (number_of e.refusal) e.record) new_rows new_roots old

  pub fits_by : (got : Result counts.Table refusing.Refused) → Loads (load_call words places sheet) old_rows old_roots (load_told got) new_rows new_roots → FitsBy got
  fits_by (Ok t) L =
      let f = read_fits words places sheet old_rows old_roots new_rows new_roots _ L t.rows t.roots refl in
      (read_few words places sheet old_rows old_roots new_rows new_roots _ L t.rows t.roots refl, (f.0, f.1))
  fits_by (Err e) L = tt

  pub flattened_by :
      (work text : ℕ) (old new : List ℕ) (r : Flat) (got : Result counts.Table refusing.Refused)
      → Loads (load_call words places sheet) old_rows old_roots (load_told got) new_rows new_roots → FlattenedBy work text old new r got
  flattened_by work text old new r (Ok t) L = flattened words places sheet old_rows old_roots new_rows new_roots _ L t.rows t.roots work text old new r refl
  flattened_by work text old new r (Err e) L =
      not_loaded words places sheet old_rows old_roots new_rows new_roots _ L (extracted_from work text (length old)) old (number_of e.refusal) e.record refl

-- ---- for those who call `flat_sheet`: both parts are inside what was lent

parts_fit :
    (o : Outcome Table) (f : Table → Outcome Extracted) (old_rows old_roots old_table new_rows new_roots new_table : List ℕ) (n k : ℕ)
    → Flattened o f old_rows old_roots old_table (flat.Rows n k) new_rows new_roots new_table → (n ≤ length new_rows) × (k ≤ length new_table)
unfolding rows_after table_after
parts_fit (refused r) f old_rows old_roots old_table new_rows new_roots new_table n k F = absurd (let e = F.answer_is in let z : ◌≡◌ {A = ℕ} 0 1 = cc in omega arith)
parts_fit (ok t) f old_rows old_roots old_table new_rows new_roots new_table n k F = go (f t) F.answer_is F.rows_are F.table_is
  where
    go : (x : Outcome Extracted) → flat.Rows n k ≡ from_extract (length (table_words t.rows)) x → new_rows ≡ rows_after (ok t) old_rows → new_table ≡ table_after x old_table
        → (n ≤ length new_rows) × (k ≤ length new_table)
    go (refused r) e h g = absurd (let z : ◌≡◌ {A = ℕ} 0 1 = cc in omega arith)
    go (ok x) e h g =
        let a : n ≡ length (table_words t.rows) = cc in
        let b : k ≡ length x.words = cc in
        (omega (arith, a, ap length h, length-append (table_words t.rows) (drop (length (table_words t.rows)) old_rows)), omega (arith, b, ap length g, length-append x.words (drop (length x.words) old_table)))

pub parts_inside :
    (o : Outcome Table) (f : Table → Outcome Extracted) (old_rows old_roots old_table new_rows new_roots new_table : List ℕ) (r : Flat) (n k : ℕ)
    → Flattened o f old_rows old_roots old_table r new_rows new_roots new_table → r ≡ flat.Rows n k → (n ≤ length new_rows) × (k ≤ length new_table)
parts_inside o f old_rows old_roots old_table new_rows new_roots new_table r n k F e =
    parts_fit o f old_rows old_roots old_table new_rows new_roots new_table n k (subst (λ (x : Flat). Flattened o f old_rows old_roots old_table x new_rows new_roots new_table) e F)
