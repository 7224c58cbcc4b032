-- Where enough rows and bytes are lent the three calls give what the programs are defined to write; for the flat form 67,328 rows and 2,296,320
-- bytes are enough for every sheet, and the call of extract never refuses by 12 (01, "Sheet and printing", "Turned down"). Assumes nothing.
use Prim.Native.Nat.{ℕ, ◌≤◌}
use native.Mathlib.Omega.{arith}
use borrow.Author.Tests.{le-ltb}
use mathlib.Core.Path.{◌≡◌, refl, sym, ◌∙◌, ap, subst}
use mathlib.Core.Bool.{Bool, true, false, ◌||◌, cond}
use mathlib.Core.List.{List}
use lib.ListN.{length}
use lib.Dec.{T, ltb}
use Rattle.spec_tree.specs.Outcome.{Refusal, Outcome, ok, refused, by, ◌>>=◌}
use Rattle.spec_tree.specs.Rows.{Table, trees}
use Rattle.spec_tree.specs.Layout.{table_of, laid_out, table_or_9}
use Rattle.spec_tree.specs.Tokens.{number_in}
use Rattle.spec_tree.proofs.LayoutLaws.{laid_out_passes}
use Rattle.spec_sheet.specs.Sheet.{load}
use Rattle.spec_sheet.proofs.SheetPasses.{accepted_passes}
use Rattle.spec_cse.specs.Answer.{Answer, rows, answer_text}
use Rattle.spec_cse.specs.AnswerRows.{answer_words}
use Rattle.spec_cse.specs.Scope.{answer}
use Rattle.spec_cse.specs.Call.{Extracted, work_words, work_bytes, extract_call}
use Rattle.guarantee.proofs.Whole.{flat_refused_by_10}
use Rattle.spec_program.specs.Calls.{by_calls}
use Rattle.spec_program.specs.Program.{reply, written, csesheet, csescoped}
use Rattle.guarantee.proofs.passing.FlatRows.{flat_rows_most}
use Rattle.guarantee.proofs.passing.FlatText.{flat_text_most}
use Rattle.guarantee.proofs.passing.Printed.{or_14}
use Rattle.guarantee.proofs.passing.ByCalls.{or_12, by_answer, calls_answer}

-- ---- the three calls

-- rows and bytes for the answer of a sheet, if it has one
abbrev pub Enough : Bool → ℕ → ℕ → List ℕ → Type 0
Enough scoped rows_lent bytes_lent sheet =
    (t : Table) (a : Answer) → load 1024 64 sheet ≡ ok t → answer scoped (trees t) ≡ ok a → (rows a ≤ rows_lent) × (length (answer_text a) ≤ bytes_lent)

module _ (scoped : Bool) (rows_lent bytes_lent : ℕ) where
  fits_both : (a : Answer) → rows a ≤ rows_lent → length (answer_text a) ≤ bytes_lent → (or_12 rows_lent a (answer_text a) >>= λ text. or_14 bytes_lent text) ≡ ok (answer_text a)
  fits_both a r b =
      ap (λ (c : Bool). cond c (refused (by 12)) (ok (answer_text a)) >>= λ text. or_14 bytes_lent text) (le-ltb rows_lent (rows a) r)
      ∙ ap (λ (c : Bool). cond c (refused (by 14)) (ok (answer_text a))) (le-ltb bytes_lent (length (answer_text a)) b)

  given_fits :
      (o : Outcome Answer) → ((a : Answer) → o ≡ ok a → (rows a ≤ rows_lent) × (length (answer_text a) ≤ bytes_lent))
      → (o >>= λ a. or_12 rows_lent a (answer_text a) >>= λ text. or_14 bytes_lent text) ≡ (o >>= λ a. ok (answer_text a))
  given_fits (ok a) f = (let q = f a refl in fits_both a q.0 q.1)
  given_fits (refused i) f = refl

  loaded_fits :
      (o : Outcome Table) → ((t : Table) (a : Answer) → o ≡ ok t → answer scoped (trees t) ≡ ok a → (rows a ≤ rows_lent) × (length (answer_text a) ≤ bytes_lent))
      → (o >>= λ t. answer scoped (trees t) >>= λ a. or_12 rows_lent a (answer_text a) >>= λ text. or_14 bytes_lent text) ≡ (o >>= λ t. answer scoped (trees t) >>= λ a. ok (answer_text a))
  loaded_fits (ok t) f = given_fits (answer scoped (trees t)) (λ a e. f t a refl e)
  loaded_fits (refused i) f = refl

  pub calls_enough :
      (sheet : List ℕ) → Enough scoped rows_lent bytes_lent sheet → by_calls scoped rows_lent bytes_lent sheet ≡ (load 1024 64 sheet >>= λ t. answer scoped (trees t) >>= λ a. ok (answer_text a))
  calls_enough sheet f = calls_answer scoped rows_lent bytes_lent sheet ∙ (unfold by_answer in loaded_fits (load 1024 64 sheet) f)

  pub written_by_calls : (sheet : List ℕ) → Enough scoped rows_lent bytes_lent sheet → reply (by_calls scoped rows_lent bytes_lent sheet) ≡ written scoped sheet
  written_by_calls sheet f = ap reply (calls_enough sheet f) ∙ (unfold written in refl)

-- so the scoped program writes the scoped answer wherever what it lends is enough
pub csescoped_enough : (sheet : List ℕ) → Enough true 131072 524288 sheet → csescoped sheet ≡ written true sheet
unfolding csescoped
csescoped_enough sheet f = written_by_calls true 131072 524288 sheet f

-- ---- the flat program by its three calls

module _ (rows_lent bytes_lent : ℕ) (sheet : List ℕ) (enough : 67328 ≤ rows_lent) where
  sheet_rows : (t : Table) (a : Answer) → load 1024 64 sheet ≡ ok t → answer false (trees t) ≡ ok a → rows a ≤ rows_lent
  sheet_rows t a l e = (let q = flat_rows_most (trees t) (accepted_passes 1024 64 sheet t l) a e in omega arith)

  row_given : (o : Outcome Answer) → ((a : Answer) → o ≡ ok a → rows a ≤ rows_lent)
      → (o >>= λ a. or_12 rows_lent a (answer_text a) >>= λ text. or_14 bytes_lent text) ≡ (o >>= λ a. or_14 bytes_lent (answer_text a))
  row_given (ok a) f = ap (λ (c : Bool). cond c (refused (by 12)) (ok (answer_text a)) >>= λ text. or_14 bytes_lent text) (le-ltb rows_lent (rows a) (f a refl))
  row_given (refused i) f = refl

  row_loaded : (o : Outcome Table) → ((t : Table) (a : Answer) → o ≡ ok t → answer false (trees t) ≡ ok a → rows a ≤ rows_lent)
      → (o >>= λ t. answer false (trees t) >>= λ a. or_12 rows_lent a (answer_text a) >>= λ text. or_14 bytes_lent text) ≡ (o >>= λ t. answer false (trees t) >>= λ a. or_14 bytes_lent (answer_text a))
  row_loaded (ok t) f = row_given (answer false (trees t)) (λ a e. f t a refl e)
  row_loaded (refused i) f = refl

  -- but for 14
  pub flat_calls : by_calls false rows_lent bytes_lent sheet ≡ (load 1024 64 sheet >>= λ t. answer false (trees t) >>= λ a. or_14 bytes_lent (answer_text a))
  flat_calls = calls_answer false rows_lent bytes_lent sheet ∙ (unfold by_answer in row_loaded (load 1024 64 sheet) sheet_rows)

  -- where the text fits
  pub csesheet_by_calls :
      ((t : Table) (a : Answer) → load 1024 64 sheet ≡ ok t → answer false (trees t) ≡ ok a → length (answer_text a) ≤ bytes_lent) → reply (by_calls false rows_lent bytes_lent sheet) ≡ csesheet sheet
  csesheet_by_calls f = written_by_calls false rows_lent bytes_lent sheet (λ t a l e. (sheet_rows t a l e, f t a l e)) ∙ (unfold csesheet in refl)

  -- and with so many bytes, for every sheet
  pub csesheet_always : 2296320 ≤ bytes_lent → reply (by_calls false rows_lent bytes_lent sheet) ≡ csesheet sheet
  csesheet_always h = csesheet_by_calls (λ t a l e. let q = flat_text_most (trees t) (accepted_passes 1024 64 sheet t l) a e in omega arith)

-- ---- the flat call of extract

-- the rows of an answer, whatever is lent
abbrev rows_given : Table → Answer → Outcome Extracted
rows_given t a = ok (record { words = answer_words (number_in t.rows) a; extracted = a.extracted })

-- the call without 12
unfoldable pub flat_call : ℕ → ℕ → List ℕ → List ℕ → Outcome Extracted
unfolding table_or_9 trees answer answer_words number_in
flat_call words_lent bytes_lent node_rows roots =
    cond (ltb words_lent work_words || ltb bytes_lent work_bytes) (refused (by 8)) (table_or_9 node_rows roots >>= λ t. answer false (trees t) >>= λ a. rows_given t a)

module _ (node_rows roots : List ℕ) (lent : ℕ) (enough : 67328 ≤ lent) where
  answer_rows : (t : Table) (o : Outcome Answer) → ((a : Answer) → o ≡ ok a → rows a ≤ lent) → (o >>= λ a. cond (ltb lent (rows a)) (refused (by 12)) (rows_given t a)) ≡ (o >>= λ a. rows_given t a)
  answer_rows t (ok a) f = ap (λ (c : Bool). cond c (refused (by 12)) (rows_given t a)) (le-ltb lent (rows a) (f a refl))
  answer_rows t (refused i) f = refl

  table_rows :
      (b : Bool) → (T b → T (laid_out node_rows roots))
      → (cond b (ok (table_of node_rows roots)) (refused (by 9)) >>= λ t. answer false (trees t) >>= λ a. cond (ltb lent (rows a)) (refused (by 12)) (rows_given t a))
      ≡ (cond b (ok (table_of node_rows roots)) (refused (by 9)) >>= λ t. answer false (trees t) >>= λ a. rows_given t a)
  table_rows true l =
      let t = table_of node_rows roots in
      answer_rows t (answer false (trees t)) (λ a e. let q = flat_rows_most (trees t) (laid_out_passes node_rows roots (l tt)) a e in omega arith)
  table_rows false l = refl

  -- with so many rows lent, how many makes no difference
  pub flat_call_rows : (words_lent bytes_lent : ℕ) → extract_call false words_lent bytes_lent node_rows roots lent ≡ flat_call words_lent bytes_lent node_rows roots
  unfolding extract_call flat_call table_or_9
  flat_call_rows words_lent bytes_lent = ap (cond (ltb words_lent work_words || ltb bytes_lent work_bytes) (refused (by 8))) (table_rows (laid_out node_rows roots) (λ l. l))

  Not12 : Outcome Extracted → Type 0
  Not12 (ok x) = Unit {0}
  Not12 (refused i) = i.number ≡ 12 → ⊥

  answer_not_12 : (t : Table) (o : Outcome Answer) → ((i : Refusal) → o ≡ refused i → i ≡ by 10) → Not12 (o >>= λ a. rows_given t a)
  unfolding Not12
  answer_not_12 t (ok a) f = tt
  answer_not_12 t (refused i) f = λ z. (let q = ap (λ (r : Refusal). r.number) (f i refl) in omega arith)

  call_not_12 :
      (b c : Bool) → (T c → T (laid_out node_rows roots))
      → Not12 (cond b (refused (by 8)) (cond c (ok (table_of node_rows roots)) (refused (by 9)) >>= λ t. answer false (trees t) >>= λ a. rows_given t a))
  unfolding Not12
  call_not_12 true c l = λ z. (omega arith)
  call_not_12 false false l = λ z. (omega arith)
  call_not_12 false true l =
      let t = table_of node_rows roots in
      answer_not_12 t (answer false (trees t)) (λ i e. flat_refused_by_10 (trees t) (laid_out_passes node_rows roots (l tt)) i e)

  refused_not_12 : (o : Outcome Extracted) → Not12 o → o ≡ refused (by 12) → ⊥
  unfolding Not12
  refused_not_12 o h e = subst Not12 e h refl

  -- so 12 is never reached
  pub flat_never_12 : (words_lent bytes_lent : ℕ) → extract_call false words_lent bytes_lent node_rows roots lent ≡ refused (by 12) → ⊥
  flat_never_12 words_lent bytes_lent e =
      refused_not_12 (flat_call words_lent bytes_lent node_rows roots)
      (unfold flat_call table_or_9 in call_not_12 (ltb words_lent work_words || ltb bytes_lent work_bytes) (laid_out node_rows roots) (λ l. l))
      (sym (flat_call_rows words_lent bytes_lent) ∙ e)
