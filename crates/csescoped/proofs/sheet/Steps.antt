-- What a sheet's scoped text is from what load, extract and print told. Assumes nothing.
use Prim.Native.Nat.{ℕ, ◌*◌, ◌/◌, ◌≤◌}
use native.Mathlib.Omega.{arith}
use mathlib.Core.Path.{◌≡◌, refl, sym, ap, ap₂, ◌∙◌, subst}
use mathlib.Core.Bool.{Bool, true, false, ◌||◌, cond}
use mathlib.Core.List.{List}
use mathlib.Core.Logic.{◌⊎◌, inl, inr}
use lib.ListN.{length, take, drop, length-append}
use lib.Dec.{ltb}
use Rattle.spec_tree.specs.Outcome.{Refusal, Outcome, ok, refused, by, ◌>>=◌}
use Rattle.spec_tree.specs.Rows.{Table, trees}
use Rattle.spec_tree.specs.Layout.{row_width, table_words, rows_of, table_of, laid_out, table_or_9}
use Rattle.spec_tree.specs.Tokens.{name_in}
use Rattle.spec_tree.specs.Tree.{Tree}
use Rattle.spec_tree.proofs.LayoutLaws.{table_long}
use Rattle.spec_sheet.specs.Call.{load_call, rows_after, roots_after}
use Rattle.spec_cse.specs.Answer.{Answer, rows, answer_text}
use Rattle.spec_cse.specs.AnswerRows.{answer_of, answer_laid_out}
use Rattle.spec_cse.specs.Scope.{answer}
use Rattle.spec_cse.specs.Call.{Extracted, work_words, work_bytes, extract_call, table_after}
use Rattle.laws.proofs.cse.Refusals.{refused_by_10_11_or_23}
use Rattle.spec_program.specs.Print.{print_call, buffer_after}
use Rattle.cse_flat.specs.Answers.{extraction_answer}
use Rattle.cse_flat.specs.Answers.{told as extract_told}
use Rattle.cse_flat.specs.Extraction as extraction
use Rattle.cse_flat.specs.declared.Extracted as counts
use Rattle.load.specs.Loaded.{Loaded}
use Rattle.load.specs.Loaded as loaded
use Rattle.load.specs.Loaded.{told as load_told}
use Rattle.load.specs.declared.Table as tables
use Rattle.load.specs.declared.Refused as refusing
use Rattle.refusal.specs.Numbers.{number_of}
use Rattle.refusal.specs.declared.Refusal as because
use Rattle.std.specs.Prelude.{Result, Ok, Err}
use Rattle.load.specs.Loads.{answered, Loads}
use Rattle.print.specs.Printing.{printed}
use Rattle.print.specs.Printing as printer
use Rattle.csescoped.specs.sheet.ScopedSheet.{rows_text, sheet_text, sheet_rows, said_of, Says, Scoped}
use Rattle.csescoped.specs.sheet.Said.{Said}
use Rattle.csescoped.specs.sheet.Said as said
use Rattle.spec_tree.proofs.Lists.{front}
use Rattle.spec_sheet.proofs.Loadable.{loaded_domain}

-- ---- extract and print have no records: the record of each of their refusals is 0

abbrev NoRecord : {A : Type 0} → Outcome A → Type 0
NoRecord (ok a) = Unit {0}
NoRecord (refused r) = r.place ≡ 0

then_none : {A B : Type 0} (o : Outcome A) (f : A → Outcome B) → NoRecord o → ((a : A) → NoRecord (f a)) → NoRecord (o >>= f)
then_none (ok a) f h g = g a
then_none (refused r) f h g = h

either_none : {A : Type 0} (b : Bool) (x y : Outcome A) → NoRecord x → NoRecord y → NoRecord (cond b x y)
either_none true x y h g = h
either_none false x y h g = g

answer_none : (es : List Tree) (o : Outcome Answer) → answer true es ≡ o → NoRecord o
answer_none es (ok a) e = tt
answer_none es (refused i) e = go (refused_by_10_11_or_23 true es i e)
  where
    go : (i ≡ by 10) ⊎ ((i ≡ by 11) ⊎ (i ≡ by 23)) → i.place ≡ 0
    go (inl z) = ap (λ (r : Refusal). r.place) z
    go (inr (inl z)) = ap (λ (r : Refusal). r.place) z
    go (inr (inr z)) = ap (λ (r : Refusal). r.place) z

extract_none : (work text : ℕ) (node_rows roots : List ℕ) (lent : ℕ) → NoRecord (extract_call true work text node_rows roots lent)
unfolding extract_call table_or_9
extract_none work text node_rows roots lent =
    either_none (ltb work work_words || ltb text work_bytes) _ _ refl
    (then_none (cond (laid_out node_rows roots) (ok (table_of node_rows roots)) (refused (by 9))) _ (either_none (laid_out node_rows roots) _ _ tt refl)
    (λ t. then_none (answer true (trees t)) _ (answer_none (trees t) (answer true (trees t)) refl) (λ a. either_none (ltb lent (rows a)) _ _ refl tt)))

print_none : (node_rows words : List ℕ) (lent : ℕ) → NoRecord (print_call node_rows words lent)
unfolding print_call
print_none node_rows words lent =
    let l = rows_of (length node_rows / row_width) node_rows in
    let text = answer_text (answer_of (name_in l) 0 words) in
    either_none (answer_laid_out l words) _ _ (either_none (ltb lent (length text)) _ _ refl tt) refl

-- ---- print's answer

module _ (node_rows words old new : List ℕ) (g : new ≡ buffer_after (print_call node_rows words (length old)) old) where
  pub text_printed : (n : ℕ) → printer.Bytes n ≡ printed (print_call node_rows words (length old)) → Says (print_call node_rows words (length old)) old (said.Bytes n) new
  unfolding printed
  text_printed n e = (go (print_call node_rows words (length old)) e, g)
    where
      go : (o : Outcome (List ℕ)) → printer.Bytes n ≡ printed o → said.Bytes n ≡ said_of o
      go (ok text) f = cc
      go (refused r) f = absurd (let z : ◌≡◌ {A = ℕ} 0 1 = cc in omega arith)

  pub print_refused : (q : ℕ) → printer.Refused q ≡ printed (print_call node_rows words (length old)) → Says (print_call node_rows words (length old)) old (said.Refused q 0) new
  unfolding printed
  print_refused q e = (go (print_call node_rows words (length old)) e (print_none node_rows words (length old)), g)
    where
      go : (o : Outcome (List ℕ)) → printer.Refused q ≡ printed o → NoRecord o → said.Refused q 0 ≡ said_of o
      go (ok text) f h = absurd (let z : ◌≡◌ {A = ℕ} 0 1 = cc in omega arith)
      go (refused r) f h = cc

-- ---- extract's

module _ (work text : ℕ) (node_rows roots old_table : List ℕ) where
  abbrev call : Outcome Extracted
  call = extract_call true work text node_rows roots (length old_table)

  pub extract_refused : (q : ℕ) (old : List ℕ) → extraction.Refused q ≡ extraction_answer call → Says (rows_text work text (length old_table) (length old) node_rows roots) old (said.Refused q 0) old
  unfolding rows_text extraction_answer buffer_after
  extract_refused q old e = go call e (extract_none work text node_rows roots (length old_table))
    where
      go : (o : Outcome Extracted) → extraction.Refused q ≡ extraction_answer o → NoRecord o → Says (o >>= λ x. print_call node_rows x.words (length old)) old (said.Refused q 0) old
      go (ok x) f h = absurd (let z : ◌≡◌ {A = ℕ} 0 1 = cc in omega arith)
      go (refused r) f h = (cc, refl)

  module _ (new_table : List ℕ) (g : new_table ≡ table_after call old_table) (n m : ℕ) (e : extraction.Rows n m ≡ extraction_answer call) where
    pub rows_inside : n ≤ length new_table
    unfolding extraction_answer table_after
    rows_inside = go call g e
      where
        go : (o : Outcome Extracted) → new_table ≡ table_after o old_table → extraction.Rows n m ≡ extraction_answer o → n ≤ length new_table
        go (refused r) h f = absurd (let z : ◌≡◌ {A = ℕ} 0 1 = cc in omega arith)
        go (ok x) h f = let a : n ≡ length x.words = cc in omega (arith, a, ap length h, length-append x.words (drop (length x.words) old_table))

    pub rows_printed :
        (old new : List ℕ) (r : Said) → Says (print_call node_rows (take n new_table) (length old)) old r new
        → Says (rows_text work text (length old_table) (length old) node_rows roots) old r new
    unfolding rows_text extraction_answer table_after
    rows_printed old new r s = go call g e
      where
        go : (o : Outcome Extracted) → new_table ≡ table_after o old_table → extraction.Rows n m ≡ extraction_answer o → Says (o >>= λ x. print_call node_rows x.words (length old)) old r new
        go (refused i) h f = absurd (let z : ◌≡◌ {A = ℕ} 0 1 = cc in omega arith)
        go (ok x) h f =
            let a : n ≡ length x.words = cc in
            let b : take n new_table ≡ x.words = ap₂ take a h ∙ front x.words old_table in
            subst (λ (l : List ℕ). Says (print_call node_rows l (length old)) old r new) b s

-- the same by what `cse_scoped` returned, by which of the two it is
module _ (work text : ℕ) (node_rows roots old_table new_table : List ℕ) where
  abbrev InsideBy : Result counts.Extracted because.Refusal → Type 0
  InsideBy (Ok x) = x.rows ≤ length new_table
  InsideBy (Err e) = Unit {0}

  abbrev SaysBy : List ℕ → List ℕ → Said → Result counts.Extracted because.Refusal → Type 0
  SaysBy old new r (Ok x) =
      Says (print_call node_rows (take x.rows new_table) (length old)) old r new
      → Says (rows_text work text (length old_table) (length old) node_rows roots) old r new
  SaysBy old new r (Err e) = Says (rows_text work text (length old_table) (length old) node_rows roots) old (said.Refused (number_of e) 0) old

  module _
      (got : Result counts.Extracted because.Refusal) (e : extract_told got ≡ extraction_answer (call work text node_rows roots old_table))
      (g : new_table ≡ table_after (call work text node_rows roots old_table) old_table) where
    pub inside_by : InsideBy got
    inside_by = go got e
      where
        go : (got : Result counts.Extracted because.Refusal) → extract_told got ≡ extraction_answer (call work text node_rows roots old_table) → InsideBy got
        go (Ok x) e = rows_inside work text node_rows roots old_table new_table g x.rows x.count e
        go (Err r) e = tt

    pub says_by : (old new : List ℕ) (r : Said) → SaysBy old new r got
    says_by old new r = go got e
      where
        go : (got : Result counts.Extracted because.Refusal) → extract_told got ≡ extraction_answer (call work text node_rows roots old_table) → SaysBy old new r got
        go (Ok x) e = rows_printed work text node_rows roots old_table new_table g x.rows x.count e old new r
        go (Err i) e = extract_refused work text node_rows roots old_table (number_of i) old e

-- ---- load's

module _
    (sheet old_rows old_roots new_rows new_roots : List ℕ) (got : Loaded)
    (L : Loads (load_call (length old_rows) (length old_roots) sheet) old_rows old_roots got new_rows new_roots) where
  abbrev load_of : Outcome Table
  load_of = load_call (length old_rows) (length old_roots) sheet

  -- the table that was loaded, in front of what was lent
  record Read (n m : ℕ) : Type 0 where
    table : Table
    loads : load_of ≡ ok table
    words_are : take (35 * n) new_rows ≡ table_words table.rows
    roots_are : take m new_roots ≡ table.roots
    few : n ≤ 1024
    rows_fit : 35 * n ≤ length new_rows
    roots_fit : m ≤ length new_roots

  read : (n m : ℕ) → got ≡ loaded.Table n m → Read n m
  unfolding rows_after roots_after
  read n m e = go load_of refl (sym e ∙ L.answer_is) L.rows_are L.roots_are
    where
      go : (o : Outcome Table) → load_of ≡ o → loaded.Table n m ≡ answered o → new_rows ≡ rows_after o old_rows → new_roots ≡ roots_after o old_roots → Read n m
      go (refused r) f g h k = absurd (let z : ◌≡◌ {A = ℕ} 0 1 = cc in omega arith)
      go (ok t) f g h k =
          let D = loaded_domain (length old_rows) (length old_roots) sheet t f in
          let a : n ≡ length t.rows = cc in
          let b : m ≡ length t.roots = cc in
          let c : 35 * n ≡ length (table_words t.rows) = omega (arith, table_long 0 t.rows D.good_rows, a) in
          record {
            table = t;
            loads = f;
            words_are = ap₂ take c h ∙ front (table_words t.rows) old_rows;
            roots_are = ap₂ take b k ∙ front t.roots old_roots;
            few = omega (arith, a, D.few_rows);
            rows_fit = omega (arith, c, ap length h, length-append (table_words t.rows) (drop (length (table_words t.rows)) old_rows));
            roots_fit = omega (arith, b, ap length k, length-append t.roots (drop (length t.roots) old_roots));
          }

  pub read_fits : (n m : ℕ) → got ≡ loaded.Table n m → (35 * n ≤ length new_rows) × (m ≤ length new_roots)
  read_fits n m e = let R = read n m e in (R.rows_fit, R.roots_fit)

  pub read_few : (n m : ℕ) → got ≡ loaded.Table n m → n ≤ 1024
  read_few n m e = (read n m e).few

  module _ (work text : ℕ) (old_table old_out : List ℕ) where
    pub load_refused :
        (q i : ℕ) → got ≡ loaded.Refused q i
        → Scoped sheet work text old_rows old_roots old_table old_out (said.Refused q i) new_rows new_roots old_table old_out
    unfolding sheet_text sheet_rows buffer_after table_after
    load_refused q i e = record {
      says = go load_of (sym e ∙ L.answer_is);
      rows_are = L.rows_are;
      roots_are = L.roots_are;
      table_is = same load_of (sym e ∙ L.answer_is);
    }
      where
        go : (o : Outcome Table) → loaded.Refused q i ≡ answered o
            → Says (o >>= λ t. rows_text work text (length old_table) (length old_out) (table_words t.rows) t.roots) old_out (said.Refused q i) old_out
        go (ok t) g = absurd (let z : ◌≡◌ {A = ℕ} 0 1 = cc in omega arith)
        go (refused r) g = (cc, refl)

        same : (o : Outcome Table) → loaded.Refused q i ≡ answered o
            → old_table ≡ table_after (o >>= λ t. extract_call true work text (table_words t.rows) t.roots (length old_table)) old_table
        same (ok t) g = absurd (let z : ◌≡◌ {A = ℕ} 0 1 = cc in omega arith)
        same (refused r) g = refl

    -- what extract and print told of the rows and roots in front of what was lent
    pub loaded_says :
        (n m : ℕ) (new_table new_out : List ℕ) (r : Said) → got ≡ loaded.Table n m
        → Says (rows_text work text (length old_table) (length old_out) (take (35 * n) new_rows) (take m new_roots)) old_out r new_out
        × (new_table ≡ table_after (extract_call true work text (take (35 * n) new_rows) (take m new_roots) (length old_table)) old_table)
        → Scoped sheet work text old_rows old_roots old_table old_out r new_rows new_roots new_table new_out
    unfolding sheet_text sheet_rows
    loaded_says n m new_table new_out r e s =
        let R = read n m e in
        let f = rows_text work text (length old_table) (length old_out) in
        let x : List ℕ → List ℕ → Outcome Extracted = λ ws ns. extract_call true work text ws ns (length old_table) in
        let a : f (take (35 * n) new_rows) (take m new_roots) ≡ (load_of >>= λ t. f (table_words t.rows) t.roots) =
        ap₂ f R.words_are R.roots_are ∙ sym (ap (λ (o : Outcome Table). o >>= λ t. f (table_words t.rows) t.roots) R.loads) in
        let b : x (take (35 * n) new_rows) (take m new_roots) ≡ (load_of >>= λ t. x (table_words t.rows) t.roots) =
        ap₂ x R.words_are R.roots_are ∙ sym (ap (λ (o : Outcome Table). o >>= λ t. x (table_words t.rows) t.roots) R.loads) in
        record {
          says = subst (λ (o : Outcome (List ℕ)). Says o old_out r new_out) a s.0;
          rows_are = L.rows_are;
          roots_are = L.roots_are;
          table_is = s.1 ∙ ap (λ (o : Outcome Extracted). table_after o old_table) b;
        }

-- the same by what `load` returned, by which of the two it is
module _ (sheet old_rows old_roots new_rows new_roots : List ℕ) where
  abbrev FitsBy : Result tables.Table refusing.Refused → Type 0
  FitsBy (Ok t) = (t.rows ≤ 1024) × ((35 * t.rows ≤ length new_rows) × (t.roots ≤ length new_roots))
  FitsBy (Err e) = Unit {0}

  abbrev ScopedBy : ℕ → ℕ → List ℕ → List ℕ → List ℕ → List ℕ → Said → Result tables.Table refusing.Refused → Type 0
  ScopedBy work text old_table old_out new_table new_out r (Ok t) =
      Says (rows_text work text (length old_table) (length old_out) (take (35 * t.rows) new_rows) (take t.roots new_roots)) old_out r new_out
      × (new_table ≡ table_after (extract_call true work text (take (35 * t.rows) new_rows) (take t.roots new_roots) (length old_table)) old_table)
      → Scoped sheet work text old_rows old_roots old_table old_out r new_rows new_roots new_table new_out
  ScopedBy work text old_table old_out new_table new_out r (Err e) =
      Scoped sheet work text old_rows old_roots old_table old_out (said.Refused (number_of e.refusal) e.record) new_rows new_roots old_table old_out

  pub fits_by :
      (got : Result tables.Table refusing.Refused) → Loads (load_call (length old_rows) (length old_roots) sheet) old_rows old_roots (load_told got) new_rows new_roots
      → FitsBy got
  fits_by (Ok t) L =
      let f = read_fits sheet old_rows old_roots new_rows new_roots _ L t.rows t.roots refl in
      (read_few sheet old_rows old_roots new_rows new_roots _ L t.rows t.roots refl, (f.0, f.1))
  fits_by (Err e) L = tt

  pub scoped_by :
      (work text : ℕ) (old_table old_out new_table new_out : List ℕ) (r : Said) (got : Result tables.Table refusing.Refused)
      → Loads (load_call (length old_rows) (length old_roots) sheet) old_rows old_roots (load_told got) new_rows new_roots
      → ScopedBy work text old_table old_out new_table new_out r got
  scoped_by work text old_table old_out new_table new_out r (Ok t) L =
      loaded_says sheet old_rows old_roots new_rows new_roots _ L work text old_table old_out t.rows t.roots new_table new_out r refl
  scoped_by work text old_table old_out new_table new_out r (Err e) L =
      load_refused sheet old_rows old_roots new_rows new_roots _ L work text old_table old_out (number_of e.refusal) e.record refl
