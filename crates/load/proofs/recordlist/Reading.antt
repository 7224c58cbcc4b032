-- The loop over a sheet's records: what has been read is in the table and the list, and the outcome of what is left is that of the whole. Assumes nothing.
use Prim.Native.Nat.{ℕ, suc, ◌+◌, ◌-◌, ◌≤◌, ◌<◌}
use mathlib.Core.Path.{◌≡◌, refl, sym, ap, ap₂, ◌∙◌, subst}
use mathlib.Core.Logic.{⊎_elim}
use mathlib.Core.List.{List, [], ◌∷◌, ◌++◌, append_assoc, append-nil}
use native.Mathlib.Omega.{arith}
use native.Mathlib.Numerals.{add-one}
use lib.ListN.{length, take, drop, length-append, length-set, drop_of_length-le}
use lib.Seq.{take-suc-set}
use Rattle.spec_tree.specs.Outcome.{Outcome, ok, refused, ◌>>=◌}
use Rattle.spec_tree.specs.Rows.{Row, Table}
use Rattle.spec_tree.specs.Layout.{row_words, table_words}
use Rattle.spec_sheet.specs.Sheet.{records_from, load_records}
use Rattle.load.specs.fields.End.{record_end}
use Rattle.load.proofs.fields.Ends.{Record, records_cut}
use Rattle.load.specs.one_record.Item.{Item, a_row, a_root, record_item, with_item}
use Rattle.load.proofs.one_record.Items.{records_step}
use Rattle.load.specs.recordlist.Step.{Step}
use Rattle.load.specs.recordlist.Step as step
use Rattle.load.specs.recordlist.Records as records
use Rattle.load.specs.recordlist.Steps.{RowJoined, RootJoined, Stepped, Holds, empty, Outcomes, AllRead}
use Rattle.load.proofs.recordlist.Limits.{placed, record_placed}

words_snoc : (l : List Row) (x : Row) → table_words (l ++ (x ∷ [])) ≡ table_words l ++ row_words x
unfolding table_words
words_snoc [] x = append-nil (row_words x)
words_snoc (r ∷ l) x = ap (λ (w : List ℕ). row_words r ++ w) (words_snoc l x) ∙ sym (append_assoc (row_words r) (table_words l) (row_words x))

pub record Reading (s : List ℕ) (at i n m : ℕ) (words list : List ℕ) : Type 0 where
  pub so_far : Table
  pub holds : Holds so_far n m words list
  pub same : load_records 0 (records_from [] s) empty ≡ load_records i (records_from [] (drop at s)) so_far
  pub counted : i + length (records_from [] (drop at s)) ≡ length (records_from [] s)
  pub few : i ≤ at

pub reading_begin : (s words list : List ℕ) → 35875 ≤ length words → 64 ≤ length list → Reading s 0 0 0 0 words list
unfolding table_words
reading_begin s words list a b =
    record {
      so_far = empty;
      holds = record { rows_many = refl; roots_many = refl; rows_few = omega arith; roots_few = omega arith; rows_are = refl; roots_are = refl; words_long = a; list_long = b };
      same = refl;
      counted = omega arith;
      few = omega arith;
    }

-- where a record ends
pub ends_within : (s : List ℕ) (at e : ℕ) → e ≡ record_end s at → at < length s → (at ≤ e) × (e ≤ length s)
ends_within s at e q h =
    let c = subst (λ (n : ℕ). Record s at n) (sym q) (records_cut s at h) in
    (c.after, ⊎_elim (λ z. omega arith) (λ z. let l = z.0 in omega arith) c.stops)

module _ (s : List ℕ) (at i n m : ℕ) (words list : List ℕ) (R : Reading s at i n m words list) (inside : at < length s) (e : ℕ) (ends : e ≡ record_end s at) where
  abbrev line : List ℕ
  line = take (e - at) (drop at s)

  abbrev rest : List (List ℕ)
  rest = records_from [] (drop (e + 2) s)

  H : Holds R.so_far n m words list
  H = R.holds

  cut : Record s at e
  cut = subst (λ (n : ℕ). Record s at n) (sym ends) (records_cut s at inside)

  -- the whole is the record's item and what comes after it
  onward : load_records 0 (records_from [] s) empty ≡ (placed i (record_item 0 n m line) >>= λ x. load_records (suc i) rest (with_item x R.so_far))
  onward =
      R.same
      ∙ (ap (λ (l : List (List ℕ)). load_records i l R.so_far) cut.parts
      ∙ (records_step i line rest R.so_far
      ∙ ap (λ (o : Outcome Item). o >>= λ x. load_records (suc i) rest (with_item x R.so_far))
      (ap₂ (λ (a b : ℕ). record_item i a b line) H.rows_many H.roots_many ∙ record_placed i n m line)))

  more : i + 1 + length rest ≡ length (records_from [] s)
  more = omega (arith, R.counted, ap length cut.parts)

  module _ (new_words new_list : List ℕ) where
    next_row : (x : Row) → record_item 0 n m line ≡ ok (a_row x) → (answer : Step) → RowJoined n m (row_words x) words list answer new_words new_list → Reading s (e + 2) (i + 1) (n + 1) m new_words new_list
    unfolding with_item
    next_row x q answer J =
        record {
          so_far = with_item (a_row x) R.so_far;
          holds = record {
            rows_many = length-append R.so_far.rows (x ∷ []) ∙ omega (arith, H.rows_many);
            roots_many = H.roots_many;
            rows_few = omega (arith, J.inside);
            roots_few = H.roots_few;
            rows_are = J.table ∙ (ap (λ (w : List ℕ). w ++ row_words x) H.rows_are ∙ sym (words_snoc R.so_far.rows x));
            roots_are = ap (take m) J.list ∙ H.roots_are;
            words_long = omega (arith, J.long, H.words_long);
            list_long = omega (arith, ap length J.list, H.list_long);
          };
          same = onward ∙ (ap (λ (o : Outcome Item). placed i o >>= λ x. load_records (suc i) rest (with_item x R.so_far)) q ∙ ap (λ (k : ℕ). load_records k rest (with_item (a_row x) R.so_far)) (sym (add-one i)));
          counted = more;
          few = omega (arith, R.few, cut.after);
        }

    next_root : (k : ℕ) → record_item 0 n m line ≡ ok (a_root k) → (answer : Step) → RootJoined n m k words list answer new_words new_list → Reading s (e + 2) (i + 1) n (m + 1) new_words new_list
    unfolding with_item
    next_root k q answer J =
        record {
          so_far = with_item (a_root k) R.so_far;
          holds = record {
            rows_many = H.rows_many;
            roots_many = length-append R.so_far.roots (k ∷ []) ∙ omega (arith, H.roots_many);
            rows_few = H.rows_few;
            roots_few = omega (arith, J.inside);
            rows_are = J.table ∙ H.rows_are;
            roots_are = ap₂ (λ (j : ℕ) (l : List ℕ). take j l) (add-one m) J.list ∙ (take-suc-set list m k (omega (arith, J.inside, H.list_long)) ∙ ap (λ (l : List ℕ). l ++ (k ∷ [])) H.roots_are);
            words_long = omega (arith, J.long, H.words_long);
            list_long = omega (arith, ap length J.list, length-set list m k, H.list_long);
          };
          same = onward ∙ (ap (λ (o : Outcome Item). placed i o >>= λ x. load_records (suc i) rest (with_item x R.so_far)) q ∙ ap (λ (j : ℕ). load_records j rest (with_item (a_root k) R.so_far)) (sym (add-one i)));
          counted = more;
          few = omega (arith, R.few, cut.after);
        }

    pub reading_next : (a b : ℕ) (answer : Step) → answer ≡ step.Next a b → Stepped n m (record_item 0 n m line) words list answer new_words new_list → Reading s (e + 2) (i + 1) a b new_words new_list
    reading_next a b answer q S = go (record_item 0 n m line) refl S
      where
        counts : (x y : ℕ) → answer ≡ step.Next x y → (x ≡ a) × (y ≡ b)
        counts x y p = (cc, cc)

        go : (o : Outcome Item) → record_item 0 n m line ≡ o → Stepped n m o words list answer new_words new_list → Reading s (e + 2) (i + 1) a b new_words new_list
        go (ok (a_row x)) p J =
            let c = counts (n + 1) m J.counts in
            subst (λ (x : ℕ). Reading s (e + 2) (i + 1) x b new_words new_list) c.0 (subst (λ (y : ℕ). Reading s (e + 2) (i + 1) (n + 1) y new_words new_list) c.1 (next_row x p answer J))
        go (ok (a_root k)) p J =
            let c = counts n (m + 1) J.counts in
            subst (λ (x : ℕ). Reading s (e + 2) (i + 1) x b new_words new_list) c.0 (subst (λ (y : ℕ). Reading s (e + 2) (i + 1) n y new_words new_list) c.1 (next_root k p answer J))
        go (refused r) p J = absurd (let z : ◌≡◌ {A = ℕ} 0 1 = cc in omega arith)

    pub reading_stops : (q : ℕ) (answer : Step) → answer ≡ step.Refused q → Stepped n m (record_item 0 n m line) words list answer new_words new_list → AllRead s (records.Refused q i) new_words new_list
    reading_stops q answer z S = go (record_item 0 n m line) refl S
      where
        go : (o : Outcome Item) → record_item 0 n m line ≡ o → Stepped n m o words list answer new_words new_list → AllRead s (records.Refused q i) new_words new_list
        go (ok (a_row x)) p J = absurd (let y = J.counts in let z : ◌≡◌ {A = ℕ} 0 1 = cc in omega arith)
        go (ok (a_root k)) p J = absurd (let y = J.counts in let z : ◌≡◌ {A = ℕ} 0 1 = cc in omega arith)
        go (refused r) p J =
            subst (λ (o : Outcome Table). Outcomes s o (records.Refused q i) new_words new_list)
            (sym (onward ∙ ap (λ (o : Outcome Item). placed i o >>= λ x. load_records (suc i) rest (with_item x R.so_far)) p)) (number r J, refl)
          where
            number : (r : record { number : ℕ; place : ℕ }) → answer ≡ step.Refused r.number → q ≡ r.number
            number r j = cc

pub reading_ends : (s : List ℕ) (at i n m : ℕ) (words list : List ℕ) → Reading s at i n m words list → length s ≤ at → AllRead s (records.All n m i) words list
unfolding load_records records_from
reading_ends s at i n m words list R h =
    let d = drop_of_length-le s {i = at} h in
    subst (λ (o : Outcome Table). Outcomes s o (records.All n m i) words list)
    (sym (R.same ∙ ap (λ (l : List ℕ). load_records i (records_from [] l) R.so_far) d))
    (R.holds, omega (arith, R.counted, ap (λ (l : List ℕ). length (records_from [] l)) d))
