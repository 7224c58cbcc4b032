-- Print takes the rows that extract gives, and writes the answer's text, or refuses by 14 alone (01, "Turned down": Print). Assumes nothing.
use Prim.Native.Nat.{ℕ, ◌/◌}
use native.Mathlib.Omega.{arith}
use mathlib.Core.Path.{◌≡◌, refl, sym, ◌∙◌, ap, subst}
use mathlib.Core.Bool.{Bool, true, false, ◌&&◌, ◌||◌, cond}
use mathlib.Core.List.{List}
use lib.ListN.{length}
use lib.Dec.{T, ltb}
use Rattle.spec_tree.specs.Outcome.{Refusal, Outcome, ok, refused, by, ◌>>=◌}
use Rattle.spec_tree.specs.Rows.{Row, Table, trees}
use Rattle.spec_tree.specs.Passes.{passes, trees_ok}
use Rattle.spec_tree.specs.Layout.{row_width, rows_of, table_of, laid_out, table_or_9}
use Rattle.spec_tree.specs.Tokens.{number_in, name_in}
use Rattle.spec_tree.proofs.Logic.{and_left, and_right}
use Rattle.spec_tree.proofs.LayoutLaws.{laid_out_passes}
use Rattle.spec_cse.specs.Answer.{Answer, rows, answer_text}
use Rattle.spec_cse.specs.AnswerRows.{answer_words, answer_of, intermediates_ok, references_ok, answer_laid_out}
use Rattle.spec_cse.specs.Scope.{answer}
use Rattle.spec_cse.specs.Call.{Extracted, work_words, work_bytes, extract_call}
use Rattle.laws.proofs.cse.Outcomes.{Good, good_ok, good_at}
use Rattle.spec_program.specs.Print.{print_call}
use Rattle.laws.proofs.answer.ListNames.{answer_fits}
use Rattle.laws.proofs.answer.LaidOut.{uncounted, same_words, same_references, read_back}
use Rattle.guarantee.proofs.passing.Passed.{table_answer_passes}

-- a text where as many bytes are lent
abbrev pub or_14 : ℕ → List ℕ → Outcome (List ℕ)
or_14 lent text = cond (ltb lent (length text)) (refused (by 14)) (ok text)

same_text : (a : Answer) → answer_text (uncounted a) ≡ answer_text a
unfolding answer_text
same_text a = refl

module _ (t : Table) (h : T (passes (trees t))) (scoped : Bool) (a : Answer) (e : answer scoped (trees t) ≡ ok a) where
  -- the rows give the answer back, but for its extraction count
  pub answer_read_back : answer_of (name_in t.rows) 0 (answer_words (number_in t.rows) a) ≡ uncounted a
  answer_read_back =
      let p = (table_answer_passes t h scoped a e).0 in
      let r = and_right (intermediates_ok a.inters) (trees_ok a.results && references_ok t.rows a) p in
      let refs : T (references_ok t.rows (uncounted a)) = subst T (sym (same_references t.rows a)) (and_right (trees_ok a.results) (references_ok t.rows a) r) in
      let f = answer_fits t.rows (uncounted a) (and_left (intermediates_ok a.inters) (trees_ok a.results && references_ok t.rows a) p) (and_left (trees_ok a.results) (references_ok t.rows a) r) refs in
      ap (answer_of (name_in t.rows) 0) (sym (same_words (number_in t.rows) a)) ∙ read_back t.rows (uncounted a) f.0 f.1

  taken_true : (b : Bool) (x y : Outcome (List ℕ)) → T b → cond b x y ≡ x
  taken_true true x y k = refl
  taken_true false x y k = absurd k

  pub table_printed :
      (node_rows : List ℕ) → rows_of (length node_rows / row_width) node_rows ≡ t.rows → (lent : ℕ)
      → print_call node_rows (answer_words (number_in t.rows) a) lent ≡ or_14 lent (answer_text a)
  unfolding print_call
  table_printed node_rows same lent =
      let ws = answer_words (number_in t.rows) a in
      ap (λ (l : List Row). cond (answer_laid_out l ws) (or_14 lent (answer_text (answer_of (name_in l) 0 ws))) (refused (by 13))) same
      ∙ taken_true (answer_laid_out t.rows ws) (or_14 lent (answer_text (answer_of (name_in t.rows) 0 ws))) (refused (by 13)) (table_answer_passes t h scoped a e).1
      ∙ ap (or_14 lent) (ap answer_text answer_read_back ∙ same_text a)

-- ---- on rows

pub record Printed (scoped : Bool) (node_rows roots : List ℕ) (x : Extracted) : Type 0 where
  pub whole : Answer
  pub given : answer scoped (trees (table_of node_rows roots)) ≡ ok whole
  pub words : x.words ≡ answer_words (number_in (table_of node_rows roots).rows) whole
  pub passed : T (answer_laid_out (table_of node_rows roots).rows x.words)
  pub printed : (lent : ℕ) → print_call node_rows x.words lent ≡ or_14 lent (answer_text whole)

module _ (scoped : Bool) (node_rows roots : List ℕ) where
  answer_printed : T (laid_out node_rows roots) → (a : Answer) → answer scoped (trees (table_of node_rows roots)) ≡ ok a
      → Printed scoped node_rows roots (record { words = answer_words (number_in (table_of node_rows roots).rows) a; extracted = a.extracted })
  answer_printed l a e =
      let t = table_of node_rows roots in
      let h = laid_out_passes node_rows roots l in
      record {
        whole = a;
        given = e;
        words = refl;
        passed = (table_answer_passes t h scoped a e).1;
        printed = λ lent. table_printed t h scoped a e node_rows (unfold table_of in refl) lent;
      }

  lent_printed :
      (b : Bool) (x : Extracted) → Printed scoped node_rows roots x → Good (Printed scoped node_rows roots) (cond b (refused (by 12)) (ok x))
  lent_printed true x p = (unfold Good in tt)
  lent_printed false x p = good_ok (Printed scoped node_rows roots) x p

  given_printed :
      (lent : ℕ) → T (laid_out node_rows roots) → (o : Outcome Answer) → answer scoped (trees (table_of node_rows roots)) ≡ o
      → Good (Printed scoped node_rows roots)
      (o >>= λ a. cond (ltb lent (rows a)) (refused (by 12)) (ok (record { words = answer_words (number_in (table_of node_rows roots).rows) a; extracted = a.extracted })))
  given_printed lent l (ok a) e =
      lent_printed (ltb lent (rows a)) (record { words = answer_words (number_in (table_of node_rows roots).rows) a; extracted = a.extracted }) (answer_printed l a e)
  given_printed lent l (refused i) e = (unfold Good in tt)

  table_given :
      (lent : ℕ) (b c : Bool) → (T c → T (laid_out node_rows roots))
      → Good (Printed scoped node_rows roots)
      (cond b (refused (by 8))
      (cond c (ok (table_of node_rows roots)) (refused (by 9)) >>= λ t.
      answer scoped (trees t) >>= λ a.
      cond (ltb lent (rows a)) (refused (by 12)) (ok (record { words = answer_words (number_in t.rows) a; extracted = a.extracted }))))
  table_given lent true c l = (unfold Good in tt)
  table_given lent false true l = given_printed lent (l tt) (answer scoped (trees (table_of node_rows roots))) refl
  table_given lent false false l = (unfold Good in tt)

  -- what extract gives, print takes
  pub extract_printed :
      (words_lent bytes_lent lent : ℕ) (x : Extracted) → extract_call scoped words_lent bytes_lent node_rows roots lent ≡ ok x → Printed scoped node_rows roots x
  unfolding extract_call table_or_9
  extract_printed words_lent bytes_lent lent x e =
      good_at (Printed scoped node_rows roots) (extract_call scoped words_lent bytes_lent node_rows roots lent) x e
      (table_given lent (ltb words_lent work_words || ltb bytes_lent work_bytes) (laid_out node_rows roots) (λ l. l))

  not_13 : (b : Bool) (text : List ℕ) → cond b (refused (by 14)) (ok text) ≡ refused (by 13) → ⊥
  not_13 true text e = (let r : by 14 ≡ by 13 = cc in let z : ◌≡◌ {A = ℕ} 14 13 = ap (λ (i : Refusal). i.number) r in omega arith)
  not_13 false text e = (let z : ◌≡◌ {A = ℕ} 0 1 = cc in omega arith)

  pub never_13 :
      (words_lent bytes_lent lent : ℕ) (x : Extracted) → extract_call scoped words_lent bytes_lent node_rows roots lent ≡ ok x
      → (buffer : ℕ) → print_call node_rows x.words buffer ≡ refused (by 13) → ⊥
  never_13 words_lent bytes_lent lent x e buffer z =
      let P = extract_printed words_lent bytes_lent lent x e in
      not_13 (ltb buffer (length (answer_text P.whole))) (answer_text P.whole) (sym (P.printed buffer) ∙ z)
