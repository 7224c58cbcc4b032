-- The ends of `finish` and of `load`. Assumes nothing.
use Rattle.std.specs.Prelude.{Some, None}
use Prim.Native.Nat.{ℕ, ◌*◌, ◌/◌, ◌≤◌, ◌<◌}
use mathlib.Core.Path.{◌≡◌, refl, sym, ap, ap₂, ◌∙◌, subst}
use mathlib.Core.Bool.{Bool, true, false, ◌&&◌, cond}
use mathlib.Core.List.{List, [], ◌++◌}
use native.Mathlib.Omega.{arith}
use native.Mathlib.Nat.{mul-div_cancel}
use borrow.Author.Tests.{le-leb, le-ltb, lt-ltb, eq-eqb, ne_eqb}
use lib.Dec.{ltb}
use lib.ListN.{length, take, drop}
use Rattle.spec_tree.specs.Outcome.{Outcome, ok, refused, by, ◌at_record◌, ◌>>=◌}
use Rattle.spec_tree.specs.Bytes.{eq_bytes, every}
use Rattle.spec_tree.specs.Rows.{Row, Table, trees, within_limits, occurrences}
use Rattle.spec_tree.specs.Layout.{table_words, rows_of, table_of, rows_ok, in_domain}
use Rattle.spec_tree.proofs.Tests.{is_true}
use Rattle.spec_tree.proofs.TreeLaws.{eq_bytes_refl}
use Rattle.spec_tree.proofs.LayoutLaws.{table_long, rows_back}
use Rattle.spec_sheet.specs.Sheet.{records_from, load_records, load}
use Rattle.spec_sheet.specs.Call.{load_call, rows_after, roots_after}
use Rattle.spec_sheet.proofs.Loaded.{Good, records_good}
use Rattle.node_rows.specs.rows.Check.{laid_in_domain, check_domain, checked}
use Rattle.load.specs.recordlist.Steps.{empty, Outcomes, AllRead}
use Rattle.load.specs.recordlist.Records.{Records}
use Rattle.load.specs.recordlist.Records as records
use Rattle.load.specs.Loaded.{Loaded}
use Rattle.load.specs.Loaded as loaded
use Rattle.load.specs.Loads.{Loads, Finished, FinishedBy}

-- ---- finish

module _ (ws ns : List ℕ) where
  pub laid_true : (n : ℕ) → checked (Some n) ≡ check_domain ws ns → laid_in_domain ws ns ≡ true
  unfolding check_domain
  laid_true n e = go (laid_in_domain ws ns) e
    where
      go : (b : Bool) → ok n ≡ (cond b (ok (table_of ws ns)) (refused (by 9)) >>= λ t. ok (occurrences (trees t))) → b ≡ true
      go true e = refl
      go false e = absurd (let z : ◌≡◌ {A = ℕ} 0 1 = cc in omega arith)

  pub laid_false : checked None ≡ check_domain ws ns → laid_in_domain ws ns ≡ false
  unfolding check_domain
  laid_false e = go (laid_in_domain ws ns) e
    where
      go : (b : Bool) → refused (by 9) ≡ (cond b (ok (table_of ws ns)) (refused (by 9)) >>= λ t. ok (occurrences (trees t))) → b ≡ false
      go true e = absurd (let z : ◌≡◌ {A = ℕ} 0 1 = cc in omega arith)
      go false e = refl

  module _ (count : ℕ) (rows roots : List ℕ) where
    pub finish_six : laid_in_domain ws ns ≡ false → Finished ws ns count rows roots (loaded.Refused 6 count) rows roots
    finish_six e = subst (λ (b : Bool). FinishedBy b ws ns count rows roots (loaded.Refused 6 count) rows roots) (sym e) (refl, refl, refl)

    pub finish_copied : (new_rows new_roots : List ℕ) → laid_in_domain ws ns ≡ true → new_rows ≡ ws ++ drop (length ws) rows → new_roots ≡ ns ++ drop (length ns) roots
        → Finished ws ns count rows roots (loaded.Table (length ws / 35) (length ns)) new_rows new_roots
    finish_copied new_rows new_roots e p q = subst (λ (b : Bool). FinishedBy b ws ns count rows roots (loaded.Table (length ws / 35) (length ns)) new_rows new_roots) (sym e) (refl, p, q)

-- ---- a table read from records is within the limits where its trees are

module _ (t : Table) (G : Good t) where
  count_is : length (table_words t.rows) / 35 ≡ length t.rows
  count_is = ap (λ (m : ℕ). m / 35) (table_long 0 t.rows G.good_rows) ∙ mul-div_cancel (length t.rows) (omega arith)

  read_back : table_of (table_words t.rows) t.roots ≡ t
  unfolding table_of
  read_back = ap (λ (l : List Row). record { rows = l; roots = t.roots }) (ap (λ (m : ℕ). rows_of m (table_words t.rows)) count_is ∙ rows_back 0 t.rows G.good_rows)

  domain_is : in_domain t ≡ within_limits (trees t)
  unfolding in_domain
  domain_is = rw (le-leb (length t.rows) 1024 G.few_rows, le-leb (length t.roots) 64 G.few_roots, is_true (rows_ok 0 t.rows) G.good_rows, is_true (every (λ n. ltb n (length t.rows)) t.roots) G.good_roots)

  laid_is : laid_in_domain (table_words t.rows) t.roots ≡ within_limits (trees t)
  unfolding laid_in_domain
  laid_is =
      ap (λ (u : Table). eq_bytes (table_words u.rows) (table_words t.rows) && in_domain u) read_back
      ∙ rw (is_true (eq_bytes (table_words t.rows) (table_words t.rows)) (eq_bytes_refl (table_words t.rows))) domain_is

-- ---- load

module _ (sheet rows roots : List ℕ) where
  abbrev called : Outcome Table
  called = load_call (length rows) (length roots) sheet

  refuses : (q i : ℕ) → called ≡ refused (q at_record i) → Loads called rows roots (loaded.Refused q i) rows roots
  unfolding rows_after roots_after
  refuses q i e = subst (λ (o : Outcome Table). Loads o rows roots (loaded.Refused q i) rows roots) (sym e) (record { answer_is = refl; rows_are = refl; roots_are = refl })

  pub few_rows : length rows / 35 < 1024 → Loads called rows roots (loaded.Refused 7 0) rows roots
  few_rows h = refuses 7 0 (unfold load_call load in rw (lt-ltb (length rows / 35) 1024 h))

  pub few_roots : 1024 ≤ length rows / 35 → length roots < 64 → Loads called rows roots (loaded.Refused 7 0) rows roots
  few_roots a h = refuses 7 0 (unfold load_call load in rw (le-ltb (length rows / 35) 1024 a, lt-ltb (length roots) 64 h))

  module _ (a : 1024 ≤ length rows / 35) (b : 64 ≤ length roots) where
    pub no_bytes : length sheet ≡ 0 → Loads called rows roots (loaded.Refused 1 0) rows roots
    no_bytes h = refuses 1 0 (unfold load_call load in rw (le-ltb (length rows / 35) 1024 a, le-ltb (length roots) 64 b, eq-eqb (length sheet) 0 h))

    pub many_bytes : (length sheet ≡ 0 → ⊥) → 65535 < length sheet → Loads called rows roots (loaded.Refused 6 0) rows roots
    many_bytes n h = refuses 6 0 (unfold load_call load in rw (le-ltb (length rows / 35) 1024 a, le-ltb (length roots) 64 b, ne_eqb (length sheet) 0 n, lt-ltb 65535 (length sheet) h))

    module _ (n : length sheet ≡ 0 → ⊥) (short : length sheet ≤ 65535) where
      abbrev after_records : Outcome Table → Outcome Table
      after_records o = elim o [ ok t ↦ cond (within_limits (trees t)) (ok t) (refused (6 at_record (length (records_from [] sheet)))) | refused r ↦ refused r ]

      past_tests : called ≡ after_records (load_records 0 (records_from [] sheet) empty)
      unfolding load_call load
      past_tests = rw (le-ltb (length rows / 35) 1024 a, le-ltb (length roots) 64 b, ne_eqb (length sheet) 0 n, le-ltb 65535 (length sheet) short)

      pub record_refused : (r : Records) (q i : ℕ) (words list : List ℕ) → r ≡ records.Refused q i → AllRead sheet r words list → Loads called rows roots (loaded.Refused q i) rows roots
      record_refused r q i words list e R = go (load_records 0 (records_from [] sheet) empty) refl (subst (λ (r : Records). AllRead sheet r words list) e R)
        where
          go : (o : Outcome Table) → load_records 0 (records_from [] sheet) empty ≡ o → Outcomes sheet o (records.Refused q i) words list → Loads called rows roots (loaded.Refused q i) rows roots
          go (ok t) e z = absurd z
          go (refused r) e z = refuses q i (past_tests ∙ (ap after_records e ∙ same r z.0 z.1))
            where
              same : (r : record { number : ℕ; place : ℕ }) → q ≡ r.number → i ≡ r.place → ◌≡◌ {A = Outcome Table} (refused r) (refused (q at_record i))
              same r x y = ap₂ (λ (u v : ℕ). refused (u at_record v)) (sym x) (sym y)

      pub all_read : (x : Records) (r m i : ℕ) (words list table_part list_part : List ℕ) (answer : Loaded) (new_rows new_roots : List ℕ) → x ≡ records.All r m i → AllRead sheet x words list
          → table_part ≡ take (35 * r) words → list_part ≡ take m list → Finished table_part list_part i rows roots answer new_rows new_roots → Loads called rows roots answer new_rows new_roots
      unfolding rows_after roots_after
      all_read x r m i words list table_part list_part answer new_rows new_roots y R p q F =
          go (load_records 0 (records_from [] sheet) empty) refl (subst (λ (r : Records). AllRead sheet r words list) y R)
        where
          done : (t : Table) → load_records 0 (records_from [] sheet) empty ≡ ok t → i ≡ length (records_from [] sheet) → Good t
              → (b : Bool) → within_limits (trees t) ≡ b → FinishedBy b (table_words t.rows) t.roots i rows roots answer new_rows new_roots → Loads called rows roots answer new_rows new_roots
          done t e k G true w F =
              let c : called ≡ ok t = past_tests ∙ (ap after_records e ∙ ap (λ (b : Bool). cond b (ok t) (refused (6 at_record (length (records_from [] sheet))))) w) in
              subst (λ (o : Outcome Table). Loads o rows roots answer new_rows new_roots) (sym c)
              (record { answer_is = F.0 ∙ ap (λ (x : ℕ). loaded.Table x (length t.roots)) (count_is t G); rows_are = F.1; roots_are = F.2 })
          done t e k G false w F =
              let c : called ≡ refused (6 at_record i) = past_tests ∙ (ap after_records e ∙ (ap (λ (b : Bool). cond b (ok t) (refused (6 at_record (length (records_from [] sheet))))) w ∙ ap (λ (x : ℕ). refused (6 at_record x)) (sym k))) in
              subst (λ (o : Outcome Table). Loads o rows roots answer new_rows new_roots) (sym c) (record { answer_is = F.0; rows_are = F.1; roots_are = F.2 })

          go : (o : Outcome Table) → load_records 0 (records_from [] sheet) empty ≡ o → Outcomes sheet o (records.All r m i) words list → Loads called rows roots answer new_rows new_roots
          go (refused x) e z = absurd z
          go (ok t) e z =
              let H = z.0 in
              let G = records_good sheet t e in
              let F2 = subst (λ (l : List ℕ). Finished l list_part i rows roots answer new_rows new_roots) (p ∙ H.rows_are) F in
              let F3 = subst (λ (l : List ℕ). Finished (table_words t.rows) l i rows roots answer new_rows new_roots) (q ∙ H.roots_are) F2 in
              done t e z.1 G (within_limits (trees t)) refl (subst (λ (b : Bool). FinishedBy b (table_words t.rows) t.roots i rows roots answer new_rows new_roots) (laid_is t G) F3)

-- the answers of reading are those two alone
