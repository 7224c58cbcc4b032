-- Whatever load gives passes `loadable`. Each record that is taken has the very bytes that the table's own sheet has for its row or root, so that sheet is no
-- longer than the one that was loaded. Assumes nothing.
use Prim.Native.Nat.{ℕ, suc, ◌+◌, ◌≤◌, ◌<◌}
use mathlib.Core.Path.{◌≡◌, refl, sym, ◌∙◌, ap, subst}
use mathlib.Core.Bool.{Bool, true, false, ◌&&◌, ◌||◌, cond}
use mathlib.Core.Option.{Option, none, some}
use mathlib.Core.List.{List, [], ◌∷◌, ◌++◌, append-nil}
use native.Mathlib.Omega.{arith}
use borrow.Author.Tests.{eqb-false, ltb-false}
use lib.IntN.{ℤ}
use lib.ListN.{length, get_or, length-append}
use lib.Dec.{T, eqb, leb, ltb, eqb→eq, ltb→lt, le→leb, leb→le}
use Rattle.spec_tree.specs.Outcome.{Outcome, ok, refused, ◌at_record◌}
use Rattle.spec_tree.specs.Bytes.{bytes, every, decimal, integer}
use Rattle.spec_tree.specs.Kinds.{kind_at, arity_ok, Neg}
use Rattle.spec_tree.specs.Symbol.{is_name}
use Rattle.spec_tree.specs.Rows.{Row, row_sym, row_const, row_op, Table, trees, within_limits}
use Rattle.spec_tree.specs.Passes.{of_paper, operands_ok}
use Rattle.spec_tree.specs.Records.{numbers_text, row_record, root_records, row_records, sheet_of, terminated}
use Rattle.spec_tree.specs.Layout.{row_ok, rows_ok, in_domain, sheet_fits, loadable}
use Rattle.spec_tree.proofs.Logic.{and_left, and_right, and_both}
use Rattle.spec_tree.proofs.DomainPasses.{domain_test}
use Rattle.spec_sheet.specs.Sheet.{records_from, fields_from, plain, constant, words, Root, find, fields_ok, numbers, add_row, add_root, add_numbers, add_fields, add_record, load_records, load}
use Rattle.spec_tree.proofs.Tests.{eq→eqb, every_more, every_less}
use Rattle.spec_sheet.proofs.Numerals.{ReadsConstant, constant_reads}
use Rattle.spec_sheet.proofs.Words.{Known, Knows, knows, kind_word, root_word}
use Rattle.spec_tree.proofs.RecordLaws.{terminated_append, joined_bytes, records_long}
use Rattle.spec_sheet.proofs.Splitting.{records_bytes, some_record, glued, Split, record_split, texts_length, glued_texts, ReadsAll, numbers_read}

-- ---- a record that is taken: a row or a root more, and the record's bytes

abbrev with_row : Table → Row → Table
with_row t x = record { rows = t.rows ++ (x ∷ []); roots = t.roots }

abbrev with_root : Table → ℕ → Table
with_root t n = record { rows = t.rows; roots = t.roots ++ (n ∷ []) }

data Added (r : List ℕ) (t u : Table) : Type 0 where
  a_row : (x : Row) → T (row_ok (length t.rows) x) → length t.rows < 1024 → r ≡ row_record x → u ≡ with_row t x → Added r t u
  a_root : (n : ℕ) → T (ltb n (length t.rows)) → length t.roots < 64 → r ≡ bytes "Root," ++ decimal n → u ≡ with_root t n → Added r t u

abbrev Adds : List ℕ → Table → Outcome Table → Type 0
Adds r t (ok u) = Added r t u
Adds r t (refused e) = Unit {0}

past : (b x y : Bool) → (T b → ⊥) → T (cond b x y) → T y
past true x y z h = absurd (z tt)
past false x y z h = h

-- the one field of a root, a symbol or a constant
single : (fs : List (List ℕ)) → length fs ≡ 1 → glued fs ≡ 44 ∷ get_or fs 0 []
unfolding glued
single [] e = absurd (omega (arith, e))
single (f ∷ []) e = ap (λ (l : List ℕ). 44 ∷ l) (append-nil f)
single (f ∷ (g ∷ fs)) e = absurd (omega (arith, e))

-- what row_ok and row-record say of each row

sym_ok : (m : ℕ) (s : List ℕ) → T (is_name s) → T (row_ok m (row_sym s))
unfolding row_ok
sym_ok m s h = h

const_ok : (m : ℕ) (c : ℤ) → T (of_paper c) → T (row_ok m (row_const c))
unfolding row_ok
const_ok m c h = h

op_ok : (m k : ℕ) (ns : List ℕ) → 2 ≤ k → T (arity_ok k (length ns)) → T (every (λ n. ltb n m) ns) → T (row_ok m (row_op k ns))
unfolding row_ok operands_ok
op_ok m k ns l a h = and_both (leb Neg k && arity_ok k (length ns)) (every (λ n. ltb n m) ns) (and_both (leb Neg k) (arity_ok k (length ns)) (le→leb Neg k l) a) h

sym_record : (s : List ℕ) → get_or words 0 [] ++ (44 ∷ s) ≡ row_record (row_sym s)
unfolding row_record words
sym_record s = refl

const_record : (c : ℤ) (f : List ℕ) → f ≡ integer c → get_or words 1 [] ++ (44 ∷ f) ≡ row_record (row_const c)
unfolding row_record words
const_record c f e = ap (λ (l : List ℕ). bytes "Const," ++ l) e

op_record : (k : ℕ) (ns : List ℕ) → row_record (row_op k ns) ≡ (kind_at k).word ++ numbers_text ns
unfolding row_record
op_record k ns = refl

module _ (i : ℕ) (r : List ℕ) (t : Table) where
  row_adds : (x : Row) → T (row_ok (length t.rows) x) → r ≡ row_record x → Adds r t (add_row i x t)
  unfolding add_row
  row_adds x h e = go (ltb (length t.rows) 1024) (ltb→lt (length t.rows) 1024)
    where
      go : (b : Bool) → (T b → length t.rows < 1024) → Adds r t (cond b (ok (with_row t x)) (refused (6 at_record i)))
      go true f = a_row x h (f tt) e refl
      go false f = tt

  root_adds : (n : ℕ) → T (ltb n (length t.rows)) → r ≡ bytes "Root," ++ decimal n → Adds r t (add_root i n t)
  unfolding add_root
  root_adds n h e = go (ltb (length t.roots) 64) (ltb→lt (length t.roots) 64)
    where
      go : (b : Bool) → (T b → length t.roots < 64) → Adds r t (cond b (ok (with_root t n)) (refused (6 at_record i)))
      go true f = a_root n h (f tt) e refl
      go false f = tt

  root_field : (ns : List ℕ) → length ns ≡ 1 → T (every (λ n. ltb n (length t.rows)) ns) → r ≡ bytes "Root" ++ numbers_text ns → Adds r t (add_root i (get_or ns 0 0) t)
  unfolding every numbers_text
  root_field [] l h e = absurd (omega (arith, l))
  root_field (n ∷ []) l h e = root_adds n (and_left (ltb n (length t.rows)) true h) (e ∙ ap (λ (m : List ℕ). bytes "Root," ++ m) (append-nil (decimal n)))
  root_field (n ∷ (m ∷ ns)) l h e = absurd (omega (arith, l))

  module _ (k : ℕ) (w : List ℕ) (K : Known w k) where
    numbers_add : (ns : List ℕ) → 2 ≤ k → T (fields_ok k (length ns)) → r ≡ w ++ numbers_text ns → Adds r t (add_numbers i k ns t)
    unfolding add_numbers
    numbers_add ns l f e = go (every (λ n. ltb n (length t.rows)) ns) (λ u. u)
      where
        op : (k ≡ Root → ⊥) → T (cond (leb k 1) (eqb (length ns) 1) (arity_ok k (length ns))) → T (every (λ n. ltb n (length t.rows)) ns) → Adds r t (add_row i (row_op k ns) t)
        op d q u =
            let small = K.small in
            row_adds (row_op k ns) (op_ok (length t.rows) k ns l (past (leb k 1) (eqb (length ns) 1) (arity_ok k (length ns)) (λ z. let v = leb→le k 1 z in omega arith) q) u)
            (e ∙ (ap (λ (v : List ℕ). v ++ numbers_text ns) (K.same ∙ kind_word k (omega arith)) ∙ sym (op_record k ns)))

        by_kind : (b : Bool) → (T b → k ≡ Root) → (k ≡ Root → T b) → T (cond (b || leb k 1) (eqb (length ns) 1) (arity_ok k (length ns))) → T (every (λ n. ltb n (length t.rows)) ns)
            → Adds r t (cond b (add_root i (get_or ns 0 0) t) (add_row i (row_op k ns) t))
        by_kind true y z q u =
            root_field ns (eqb→eq (length ns) 1 q) u
            (e ∙ ap (λ (v : List ℕ). v ++ numbers_text ns) (K.same ∙ (ap (λ (j : ℕ). get_or words j []) (y tt) ∙ root_word)))
        by_kind false y z q u = op z q u

        go : (b : Bool) → (T b → T (every (λ n. ltb n (length t.rows)) ns))
            → Adds r t (elim b [ true ↦ cond (eqb k Root) (add_root i (get_or ns 0 0) t) (add_row i (row_op k ns) t) | false ↦ refused (5 at_record i) ])
        go true u = by_kind (eqb k Root) (eqb→eq k Root) (eq→eqb k Root) f (u tt)
        go false u = tt

    fields_add : (fs : List (List ℕ)) → T (fields_ok k (length fs)) → r ≡ w ++ glued fs → Adds r t (add_fields i k fs t)
    unfolding add_fields
    fields_add fs f e = go (eqb k 0) (eqb k 1) (eqb→eq k 0) (eqb→eq k 1) (eq→eqb k 0) (eq→eqb k 1)
      where
        -- where the kind takes one field, the record is the kind's word, a comma and the field
        one : (j : ℕ) → k ≡ j → length fs ≡ 1 → r ≡ get_or words j [] ++ (44 ∷ get_or fs 0 [])
        one j p l = e ∙ (ap (λ (m : List ℕ). w ++ m) (single fs l) ∙ ap (λ (v : List ℕ). v ++ (44 ∷ get_or fs 0 [])) (K.same ∙ ap (λ (j : ℕ). get_or words j []) p))

        name : (b : Bool) → (T b → T (is_name (get_or fs 0 []))) → k ≡ 0 → Adds r t (cond b (add_row i (row_sym (get_or fs 0 [])) t) (refused (3 at_record i)))
        name true u p =
            row_adds (row_sym (get_or fs 0 [])) (sym_ok (length t.rows) (get_or fs 0 []) (u tt))
            (one 0 p (eqb→eq (length fs) 1 (subst (λ (j : ℕ). T (fields_ok j (length fs))) p f)) ∙ sym_record (get_or fs 0 []))
        name false u p = tt

        number : (o : Option ℤ) → ReadsConstant (get_or fs 0 []) o → k ≡ 1 → Adds r t (elim o [ none ↦ refused (4 at_record i) | some c ↦ add_row i (row_const c) t ])
        number none u p = tt
        number (some c) u p =
            row_adds (row_const c) (const_ok (length t.rows) c u.small)
            (one 1 p (eqb→eq (length fs) 1 (subst (λ (j : ℕ). T (fields_ok j (length fs))) p f)) ∙ const_record c (get_or fs 0 []) u.text)

        node : (o : Option (List ℕ)) → ReadsAll fs o → 2 ≤ k → Adds r t (elim o [ none ↦ refused (2 at_record i) | some ns ↦ add_numbers i k ns t ])
        node none u l = tt
        node (some ns) u l =
            numbers_add ns l (subst (λ (m : ℕ). T (fields_ok k m)) (ap length u ∙ texts_length ns) f) (e ∙ ap (λ (m : List ℕ). w ++ m) (ap glued u ∙ glued_texts ns))

        two : (k ≡ 0 → ⊥) → (k ≡ 1 → ⊥) → 2 ≤ k
        two y z = omega arith

        go : (b c : Bool) → (T b → k ≡ 0) → (T c → k ≡ 1) → (k ≡ 0 → T b) → (k ≡ 1 → T c)
            → Adds r t
            (elim b [
              | true ↦ cond (is_name (get_or fs 0 [])) (add_row i (row_sym (get_or fs 0 [])) t) (refused (3 at_record i))
              | false ↦ elim c [
                | true ↦ elim (constant (get_or fs 0 [])) [ none ↦ refused (4 at_record i) | some c ↦ add_row i (row_const c) t ]
                | false ↦ elim (numbers fs) [ none ↦ refused (2 at_record i) | some ns ↦ add_numbers i k ns t ]
              ]
            ])
        go true c p q u v = name (is_name (get_or fs 0 [])) (λ w. w) (p tt)
        go false true p q u v = number (constant (get_or fs 0 [])) (constant_reads (get_or fs 0 [])) (q tt)
        go false false p q u v = node (numbers fs) (numbers_read fs) (two u v)

  record_adds : Adds r t (add_record i (fields_from [] r) t)
  unfolding add_record
  record_adds = go (fields_from [] r) (record_split r)
    where
      fields : (k : ℕ) (w : List ℕ) (fs : List (List ℕ)) → Known w k → r ≡ w ++ glued fs → (b : Bool) → (T b → T (fields_ok k (length fs)))
          → Adds r t (elim b [ true ↦ add_fields i k fs t | false ↦ refused (2 at_record i) ])
      fields k w fs K e true u = fields_add k w K fs (u tt) e
      fields k w fs K e false u = tt

      kind : (w : List ℕ) (fs : List (List ℕ)) → r ≡ w ++ glued fs → (o : Option ℕ) → Knows w o
          → Adds r t (elim o [ none ↦ refused (2 at_record i) | some k ↦ elim (fields_ok k (length fs)) [ true ↦ add_fields i k fs t | false ↦ refused (2 at_record i) ] ])
      kind w fs e none K = tt
      kind w fs e (some k) K = fields k w fs K e (fields_ok k (length fs)) (λ u. u)

      go : (l : List (List ℕ)) → Split r l → Adds r t (add_record i l t)
      go [] s = tt
      go (w ∷ fs) s = kind w fs s (find 0 w words) (knows w)

-- ---- a table on the way: within the limits that need no tree, and as many bytes as its records

pub record Good (t : Table) : Type 0 where
  pub few_rows : length t.rows ≤ 1024
  pub few_roots : length t.roots ≤ 64
  pub good_rows : T (rows_ok 0 t.rows)
  pub good_roots : T (every (λ n. ltb n (length t.rows)) t.roots)

weight : Table → ℕ
weight t = terminated (row_records t.rows) + terminated (root_records t.roots)

-- u is t and what the records l say
record Grown (l : List (List ℕ)) (t u : Table) : Type 0 where
  good : Good u
  all_bytes : weight u ≡ weight t + terminated l
  some_row : 1 ≤ length l → 1 ≤ length u.rows
  no_fewer : length t.rows ≤ length u.rows

rows_append : (i : ℕ) (l : List Row) (x : Row) → T (rows_ok i l) → T (row_ok (i + length l) x) → T (rows_ok i (l ++ (x ∷ [])))
unfolding rows_ok
rows_append i [] x g h = and_both (row_ok i x) true (subst (λ (m : ℕ). T (row_ok m x)) (let e : i + 0 ≡ i = omega arith in e) h) tt
rows_append i (q ∷ l) x g h =
    and_both (row_ok i q) (rows_ok (suc i) (l ++ (x ∷ []))) (and_left (row_ok i q) (rows_ok (suc i) l) g)
    (rows_append (suc i) l x (and_right (row_ok i q) (rows_ok (suc i) l) g) (subst (λ (m : ℕ). T (row_ok m x)) (let e : i + suc (length l) ≡ suc i + length l = omega arith in e) h))

row_weight : (l : List Row) (x : Row) → terminated (row_records (l ++ (x ∷ []))) ≡ terminated (row_records l) + (length (row_record x) + 2)
unfolding row_records terminated
row_weight [] x = omega arith
row_weight (q ∷ l) x = let e = row_weight l x in omega arith

root_weight : (l : List ℕ) (n : ℕ) → terminated (root_records (l ++ (n ∷ []))) ≡ terminated (root_records l) + (length (bytes "Root," ++ decimal n) + 2)
unfolding root_records terminated
root_weight [] n = omega arith
root_weight (m ∷ l) n = let e = root_weight l n in omega arith

one_weight : (r : List ℕ) → terminated (r ∷ []) ≡ length r + 2
unfolding terminated
one_weight r = omega arith

module _ (t : Table) (G : Good t) where
  row_grown : (r : List ℕ) (x : Row) → T (row_ok (length t.rows) x) → length t.rows < 1024 → r ≡ row_record x → Grown (r ∷ []) t (with_row t x)
  unfolding weight
  row_grown r x h l e =
      let n = length-append t.rows (x ∷ []) in
      let z : length t.rows ≡ 0 + length t.rows = omega arith in
      record {
        good =
            record {
              few_rows = omega arith;
              few_roots = G.few_roots;
              good_rows = rows_append 0 t.rows x G.good_rows (subst (λ (m : ℕ). T (row_ok m x)) z h);
              good_roots = every_less (length t.rows) (length (t.rows ++ (x ∷ []))) (omega arith) t.roots G.good_roots;
            };
        all_bytes = omega (arith, row_weight t.rows x, one_weight r, ap length e);
        some_row = λ q. omega arith;
        no_fewer = omega arith;
      }

  root_grown : (r : List ℕ) (n : ℕ) → T (ltb n (length t.rows)) → length t.roots < 64 → r ≡ bytes "Root," ++ decimal n → Grown (r ∷ []) t (with_root t n)
  unfolding weight
  root_grown r n h l e =
      let m = length-append t.roots (n ∷ []) in
      let less = ltb→lt n (length t.rows) h in
      record {
        good =
            record {
              few_rows = G.few_rows;
              few_roots = omega arith;
              good_rows = G.good_rows;
              good_roots = every_more (λ i. ltb i (length t.rows)) t.roots (n ∷ []) G.good_roots (unfold every in and_both (ltb n (length t.rows)) true h tt);
            };
        all_bytes = omega (arith, root_weight t.roots n, one_weight r, ap length e);
        some_row = λ q. omega arith;
        no_fewer = omega arith;
      }

  grown : (r : List ℕ) (u : Table) → Added r t u → Grown (r ∷ []) t u
  grown r u (a_row x h l e s) = subst (λ (v : Table). Grown (r ∷ []) t v) (sym s) (row_grown r x h l e)
  grown r u (a_root n h l e s) = subst (λ (v : Table). Grown (r ∷ []) t v) (sym s) (root_grown r n h l e)

grown_more : (r : List ℕ) (l : List (List ℕ)) (t u v : Table) → Grown (r ∷ []) t u → Grown l u v → Grown (r ∷ l) t v
grown_more r l t u v a b =
    record {
      good = b.good;
      all_bytes = (let p = a.all_bytes in let q = b.all_bytes in omega (arith, terminated_append (r ∷ []) l));
      some_row = (let p = a.some_row (omega arith) in let q = b.no_fewer in λ _. omega arith);
      no_fewer = (let p = a.no_fewer in let q = b.no_fewer in omega arith);
    }

abbrev Grows : List (List ℕ) → Table → Outcome Table → Type 0
Grows l t (ok u) = Grown l t u
Grows l t (refused e) = Unit {0}

records_grow : (i : ℕ) (l : List (List ℕ)) (t : Table) → Good t → Grows l t (load_records i l t)
unfolding load_records
records_grow i [] t G = record { good = G; all_bytes = (let e : terminated [] ≡ 0 = (unfold terminated in refl) in omega arith); some_row = λ q. absurd (omega arith); no_fewer = omega arith }
records_grow i (r ∷ l) t G = go (every plain r) (add_record i (fields_from [] r) t) (record_adds i r t) (λ u H. records_grow (suc i) l u H)
  where
    more : (u : Table) → Grown (r ∷ []) t u → (o : Outcome Table) → Grows l u o → Grows (r ∷ l) t o
    more u a (ok v) b = grown_more r l t u v a b
    more u a (refused e) b = tt

    go : (b : Bool) (o : Outcome Table) → Adds r t o → ((u : Table) → Good u → Grows l u (load_records (suc i) l u))
        → Grows (r ∷ l) t (elim b [ true ↦ elim o [ ok u ↦ load_records (suc i) l u | refused r ↦ refused r ] | false ↦ refused (2 at_record i) ])
    go true (ok u) h f = let a = grown t G r u h in more u a (load_records (suc i) l u) (f u a.good)
    go true (refused r) h f = tt
    go false o h f = tt

-- the rows and roots of records that all went well
pub records_good : (s : List ℕ) (t : Table) → load_records 0 (records_from [] s) (record { rows = []; roots = [] }) ≡ ok t → Good t
records_good s t e =
    (subst (Grows (records_from [] s) (record { rows = []; roots = [] })) e
    (records_grow 0 (records_from [] s) (record { rows = []; roots = [] })
    (record { few_rows = omega arith; few_roots = omega arith; good_rows = (unfold rows_ok in tt); good_roots = (unfold every in tt) }))
    ).good

-- ---- load

sheet_bytes : (t : Table) → 1 ≤ length t.rows → length (sheet_of t) + 2 ≡ weight t
unfolding sheet_of weight
sheet_bytes t h =
    let rs = row_records t.rows in
    let ss = root_records t.roots in
    omega (arith, joined_bytes (rs ++ ss) (omega (arith, records_long t.rows ss)), terminated_append rs ss)

empty_weight : weight (record { rows = []; roots = [] }) ≡ 0
unfolding weight row_records root_records terminated
empty_weight = refl

-- what is loaded from a sheet of 1 to 65,535 bytes, once its trees are within the limits
grown_loadable : (s : List ℕ) (t : Table) → 1 ≤ length s → length s ≤ 65535 → Grown (records_from [] s) (record { rows = []; roots = [] }) t → T (within_limits (trees t)) → T (loadable t)
unfolding loadable sheet_fits
grown_loadable s t p q a w =
    let G = a.good in
    let few = a.some_row (some_record [] s p) in
    let e = a.all_bytes in
    and_both (in_domain t) (leb 1 (length t.rows) && leb (length (sheet_of t)) 65535)
    (domain_test t (record { few_rows = G.few_rows; few_roots = G.few_roots; good_rows = G.good_rows; good_roots = G.good_roots; limited = w }))
    (and_both (leb 1 (length t.rows)) (leb (length (sheet_of t)) 65535) (le→leb 1 (length t.rows) few)
    (le→leb (length (sheet_of t)) 65535 (omega (arith, sheet_bytes t few, records_bytes [] s, empty_weight))))

abbrev Loadable : Outcome Table → Type 0
Loadable (ok t) = T (loadable t)
Loadable (refused e) = Unit {0}

load_loadable : (row_places root_places : ℕ) (s : List ℕ) → Loadable (load row_places root_places s)
unfolding load
load_loadable row_places root_places s =
    places (ltb row_places 1024 || ltb root_places 64) (eqb (length s) 0) refl (ltb 65535 (length s)) refl (load_records 0 (records_from [] s) (record { rows = []; roots = [] }))
    (records_grow 0 (records_from [] s) (record { rows = []; roots = [] })
    (record { few_rows = omega arith; few_roots = omega arith; good_rows = (unfold rows_ok in tt); good_roots = (unfold every in tt) }))
  where
    limits : (t : Table) → (T (within_limits (trees t)) → T (loadable t)) → (b : Bool) → (T b → T (within_limits (trees t))) → (n : ℕ) → Loadable (cond b (ok t) (refused (6 at_record n)))
    limits t f true h n = f (h tt)
    limits t f false h n = tt

    last : 1 ≤ length s → length s ≤ 65535 → (o : Outcome Table) → Grows (records_from [] s) (record { rows = []; roots = [] }) o
        → Loadable (elim o [ ok t ↦ cond (within_limits (trees t)) (ok t) (refused (6 at_record (length (records_from [] s)))) | refused r ↦ refused r ])
    last p q (ok t) a = limits t (grown_loadable s t p q a) (within_limits (trees t)) (λ u. u) (length (records_from [] s))
    last p q (refused r) a = tt

    places : (a b : Bool) → eqb (length s) 0 ≡ b → (c : Bool) → ltb 65535 (length s) ≡ c → (o : Outcome Table) → Grows (records_from [] s) (record { rows = []; roots = [] }) o
        → Loadable
        (cond a (refused (7 at_record 0))
        (cond b (refused (1 at_record 0))
        (cond c (refused (6 at_record 0))
        (elim o [ ok t ↦ cond (within_limits (trees t)) (ok t) (refused (6 at_record (length (records_from [] s)))) | refused r ↦ refused r ]))))
    places true b p c q o g = tt
    places false true p c q o g = tt
    places false false p true q o g = tt
    places false false p false q o g = last (let n = eqb-false (length s) 0 p in omega arith) (ltb-false 65535 (length s) q) o g

pub loaded_loadable : (row_places root_places : ℕ) (s : List ℕ) (t : Table) → load row_places root_places s ≡ ok t → T (loadable t)
loaded_loadable row_places root_places s t e = subst Loadable e (load_loadable row_places root_places s)
