-- What the contracts of the operations `cse` and `cse_scoped` say of every list, over the form (01, "Turned down": Extract): what one hands back and leaves in the
-- table is the answer of its form, read back from its rows, or it hands back a refusal and leaves the table as it was. Over the contracts alone, so for any program
-- that meets them. Assumes nothing.
use Prim.Native.Nat.{ℕ, ◌≤◌}
use mathlib.Core.Path.{◌≡◌, refl, sym, ◌∙◌, ap, ap₂, subst}
use mathlib.Core.Logic.{◌⊎◌, inl, inr}
use mathlib.Core.Bool.{Bool, true, false, ◌||◌}
use mathlib.Core.List.{List}
use native.Mathlib.Omega.{arith}
use lib.ListN.{length, take, drop}
use lib.Seq.{take_at, drop_at}
use lib.Dec.{T, ltb}
use Rattle.spec_tree.specs.Outcome.{Refusal, Outcome, ok, refused, by}
use Rattle.spec_tree.specs.Tree.{Tree}
use Rattle.spec_tree.specs.Rows.{trees}
use Rattle.spec_tree.specs.Passes.{passes}
use Rattle.spec_tree.specs.Layout.{table_of, laid_out}
use Rattle.spec_tree.specs.Tokens.{name_in, number_in}
use Rattle.spec_tree.proofs.Tests.{is_true}
use Rattle.spec_cse.specs.Answer.{Answer}
use Rattle.spec_cse.specs.Answer as answers
use Rattle.spec_cse.specs.AnswerRows.{answer_of, answer_words}
use Rattle.spec_cse.specs.Scope.{answer}
use Rattle.spec_cse.specs.Call.{Extracted, work_words, work_bytes, extract_call, table_after}
use Rattle.laws.proofs.cse.BoundSwitches.{no_switch_bound}
use Rattle.laws.proofs.answer.LaidOut.{uncounted}
use Rattle.guarantee.proofs.passing.Printed.{answer_read_back}
use Rattle.guarantee.proofs.Operation.{Called, call_is, AnswersFor, answered_call, flat_refused_by_8_9_10_or_12, scoped_refused_by_8_9_10_11_12_or_23, scoped_refused_by_8_9_10_11_or_12}
use Rattle.guarantee.proofs.Operation as operation
use Rattle.cse_flat.specs.Answers.{extraction_answer}
use Rattle.cse_flat.specs.Extraction.{Extraction}
use Rattle.cse_flat.specs.Extraction as extraction
use borrow.Author.Tests.{le-ltb}

-- ---- an outcome from what is handed back

rows_from : (o : Outcome Extracted) (n x : ℕ) → extraction_answer o ≡ extraction.Rows n x → (e : Extracted) × (o ≡ ok e) × (n ≡ length e.words) × (x ≡ e.extracted)
unfolding extraction_answer
rows_from (ok e) n x h = (e, refl, cc, cc)
rows_from (refused i) n x h = absurd (let z : ◌≡◌ {A = ℕ} 0 1 = cc in omega arith)

number_from : (o : Outcome Extracted) (q : ℕ) → extraction_answer o ≡ extraction.Refused q → (i : Refusal) × (o ≡ refused i) × (q ≡ i.number)
unfolding extraction_answer
number_from (ok e) q h = absurd (let z : ◌≡◌ {A = ℕ} 0 1 = cc in omega arith)
number_from (refused i) q h = (i, refl, cc)

in_front : (e : Extracted) (old : List ℕ) (n : ℕ) → n ≡ length e.words → take n (table_after (ok e) old) ≡ e.words
unfolding table_after
in_front e old n h = take_at e.words (drop (length e.words) old) n (sym h)

past : (e : Extracted) (old : List ℕ) (n : ℕ) → n ≡ length e.words → drop n (table_after (ok e) old) ≡ drop n old
unfolding table_after
past e old n h = drop_at e.words (drop (length e.words) old) n (sym h) ∙ ap (λ (m : ℕ). drop m old) (sym h)

unchanged : (i : Refusal) (old : List ℕ) → table_after (refused i) old ≡ old
unfolding table_after
unchanged i old = refl

not_short : (words bytes : ℕ) → work_words ≤ words → work_bytes ≤ bytes → (ltb words work_words || ltb bytes work_bytes) ≡ false
not_short words bytes w t = ap₂ (λ (p q : Bool). p || q) (le-ltb words work_words w) (le-ltb bytes work_bytes t)

-- ---- a call, by its contract

-- The trees of node rows and roots: the list that a call is on.
abbrev pub list_of : List ℕ → List ℕ → List Tree
list_of rows roots = trees (table_of rows roots)

-- A call of `cse` (false) or `cse_scoped` (true) on node rows and roots: how many words and bytes of work area are lent, the table before it, what it hands back and
-- the table after it, which its contract gives.
pub record Call (scoped : Bool) (rows roots : List ℕ) : Type 0 where
  pub words : ℕ
  pub bytes : ℕ
  pub old : List ℕ
  pub handed : Extraction
  pub table : List ℕ
  pub handed_is : handed ≡ extraction_answer (extract_call scoped words bytes rows roots (length old))
  pub table_is : table ≡ table_after (extract_call scoped words bytes rows roots (length old)) old

module _ (scoped : Bool) (rows roots : List ℕ) where
  -- A call returns an answer: it hands back how many rows this has, and its extraction count, and the answer is read from these rows, in front of the table, as print
  -- reads it.
  pub record Returns (c : Call scoped rows roots) (a : Answer) : Type 0 where
    pub row_count : ℕ
    pub extraction_count : ℕ
    pub handed_back : c.handed ≡ extraction.Rows row_count extraction_count
    pub read_from : a ≡ answer_of (name_in (table_of rows roots).rows) extraction_count (take row_count c.table)

  module _ (c : Call scoped rows roots) where
    abbrev call : Outcome Extracted
    call = extract_call scoped c.words c.bytes rows roots (length c.old)

    -- the rows in front of the table and the count are those of the form's answer, and demand 3 holds of the list; past them the table is as it was
    pub answered :
        (n x : ℕ) → c.handed ≡ extraction.Rows n x
        → AnswersFor scoped c.words c.bytes rows roots (length c.old) (record { words = take n c.table; extracted = x }) × (drop n c.table ≡ drop n c.old)
    answered n x h =
        let f = rows_from call n x (sym c.handed_is ∙ h) in
        let e = f.0 in
        let after : c.table ≡ table_after (ok e) c.old = c.table_is ∙ ap (λ (o : Outcome Extracted). table_after o c.old) f.1 in
        let front : take n c.table ≡ e.words = ap (take n) after ∙ in_front e c.old n f.2 in (
          subst (AnswersFor scoped c.words c.bytes rows roots (length c.old)) (ap₂ (λ (ws : List ℕ) (k : ℕ). record { words = ws; extracted = k }) (sym front) (sym f.3))
              (answered_call scoped c.words c.bytes rows roots (length c.old) e f.1),
          ap (drop n) after ∙ past e c.old n f.2,
        )

    -- refused by a number that the call is refused by, with the table as it was
    pub turned_down : (q : ℕ) → c.handed ≡ extraction.Refused q → (i : Refusal) × (call ≡ refused i) × (q ≡ i.number) × (c.table ≡ c.old)
    turned_down q h =
        let f = number_from call q (sym c.handed_is ∙ h) in
        (f.0, f.1, f.2, c.table_is ∙ ap (λ (o : Outcome Extracted). table_after o c.old) f.1 ∙ unchanged f.0 c.old)

    with_count : (a : Answer) (ws : List ℕ) (x : ℕ) → x ≡ a.extracted → answer_of (name_in (table_of rows roots).rows) 0 ws ≡ uncounted a
        → answer_of (name_in (table_of rows roots).rows) x ws ≡ a
    unfolding answer_of
    with_count a ws x e h = ap₂ (λ (b : Answer) (k : ℕ). record { inters = b.inters; results = b.results; extracted = k }) h e

    -- the answer that a call returns is the one of its form, for a list that passes 9
    pub returned_is : (a : Answer) → Returns c a → (answer scoped (list_of rows roots) ≡ ok a) × T (passes (list_of rows roots))
    returned_is a r =
        let f = (answered r.row_count r.extraction_count r.handed_back).0 in
        let t = table_of rows roots in
        let ws = take r.row_count c.table in
        let b = f.an_answer in
        let front : ws ≡ answer_words (number_in t.rows) b = ap (λ (x : Extracted). x.words) f.is_written in
        let count : r.extraction_count ≡ b.extracted = ap (λ (x : Extracted). x.extracted) f.is_written in
        let back : answer_of (name_in t.rows) 0 ws ≡ uncounted b = ap (answer_of (name_in t.rows) 0) front ∙ answer_read_back t f.passed scoped b f.is_answer in
        let same : a ≡ b = r.read_from ∙ with_count b ws r.extraction_count count back in
        (f.is_answer ∙ ap (λ (z : Answer). ok z) (sym same), f.passed)

    -- and where it hands back rows it returns one
    pub returned_one : (n x : ℕ) → c.handed ≡ extraction.Rows n x → (a : Answer) × Returns c a
    returned_one n x h =
        (answer_of (name_in (table_of rows roots).rows) x (take n c.table), record { row_count = n; extraction_count = x; handed_back = h; read_from = refl })

    same_answer : {a b : Answer} → ◌≡◌ {A = Outcome Answer} (ok a) (ok b) → a ≡ b
    same_answer e = cc

    not_refused : {a : Answer} {i : Refusal} → ◌≡◌ {A = Outcome Answer} (ok a) (refused i) → ⊥
    not_refused e = let z : ◌≡◌ {A = ℕ} 0 1 = cc in omega arith

    never_so : {b : Bool} → b ≡ true → b ≡ false → ⊥
    never_so e f = let z : ◌≡◌ {A = ℕ} 0 1 = cc in omega arith

    rows_handed : (x : Extracted) → call ≡ ok x → c.handed ≡ extraction.Rows (length x.words) x.extracted
    unfolding extraction_answer
    rows_handed x e = c.handed_is ∙ ap extraction_answer e

    -- it does so wherever the work area is long enough, the rows pass 9, the form has an answer for the list, and the table has room for its rows
    pub returned_where :
        work_words ≤ c.words → work_bytes ≤ c.bytes → T (laid_out rows roots)
        → (a : Answer) → answer scoped (list_of rows roots) ≡ ok a → answers.rows a ≤ length c.old → Returns c a
    returned_where w t l a e m = go (call_is scoped c.words c.bytes rows roots (length c.old))
      where
        go : Called scoped c.words c.bytes rows roots (length c.old) call → Returns c a
        go (operation.eight z f) = absurd (never_so z (not_short c.words c.bytes w t))
        go (operation.nine z f) = absurd (never_so (is_true (laid_out rows roots) l) z)
        go (operation.stopped h i z f) = absurd (not_refused (sym e ∙ z))
        go (operation.twelve h b z k f) = let q = ap answers.rows (same_answer (sym e ∙ z)) in absurd (omega arith)
        go (operation.answered h b z k f) =
            let one = returned_one _ _ (rows_handed _ f) in
            subst (Returns c) (sym (same_answer (sym e ∙ (returned_is one.0 one.1).0))) one.1

-- ---- the refusals of each form

either : {A B C D : Type 0} → (A → C) → (B → D) → A ⊎ B → C ⊎ D
either f g (inl a) = inl (f a)
either f g (inr b) = inr (g b)

number : (q : ℕ) (i : Refusal) → q ≡ i.number → (n : ℕ) → i ≡ by n → q ≡ n
number q i e n g = e ∙ ap (λ (j : Refusal). j.number) g

module _ (rows roots : List ℕ) where
  pub flat_turned_down :
      (c : Call false rows roots) (q : ℕ) → c.handed ≡ extraction.Refused q → ((q ≡ 8) ⊎ ((q ≡ 9) ⊎ ((q ≡ 10) ⊎ (q ≡ 12)))) × (c.table ≡ c.old)
  flat_turned_down c q h =
      let f = turned_down false rows roots c q h in
      let is = number q f.0 f.2 in
      (either (is 8) (either (is 9) (either (is 10) (is 12))) (flat_refused_by_8_9_10_or_12 c.words c.bytes rows roots (length c.old) f.0 f.1), f.3)

  pub scoped_turned_down :
      (c : Call true rows roots) (q : ℕ) → c.handed ≡ extraction.Refused q
      → ((q ≡ 8) ⊎ ((q ≡ 9) ⊎ ((q ≡ 10) ⊎ ((q ≡ 11) ⊎ ((q ≡ 12) ⊎ (q ≡ 23)))))) × (c.table ≡ c.old)
  scoped_turned_down c q h =
      let f = turned_down true rows roots c q h in
      let is = number q f.0 f.2 in (
        either (is 8) (either (is 9) (either (is 10) (either (is 11) (either (is 12) (is 23)))))
            (scoped_refused_by_8_9_10_11_12_or_23 c.words c.bytes rows roots (length c.old) f.0 f.1),
        f.3,
      )

  -- never 23 where no scope that is reached binds a divisor with a switch outside arms, as where each divisor holds a symbol, or no Select or Branch (Whole
  -- `plain-none-bound`)
  pub scoped_never_23 : T (no_switch_bound (list_of rows roots)) → (c : Call true rows roots) → c.handed ≡ extraction.Refused 23 → ⊥
  scoped_never_23 p c h =
      let f = turned_down true rows roots c 23 h in
      let is = number 23 f.0 f.2 in
      go 23 refl (either (is 8) (either (is 9) (either (is 10) (either (is 11) (is 12)))) (scoped_refused_by_8_9_10_11_or_12 c.words c.bytes rows roots (length c.old) p f.0 f.1))
    where
      go : (q : ℕ) → q ≡ 23 → (q ≡ 8) ⊎ ((q ≡ 9) ⊎ ((q ≡ 10) ⊎ ((q ≡ 11) ⊎ (q ≡ 12)))) → ⊥
      go q h (inl e) = omega arith
      go q h (inr (inl e)) = omega arith
      go q h (inr (inr (inl e))) = omega arith
      go q h (inr (inr (inr (inl e)))) = omega arith
      go q h (inr (inr (inr (inr e)))) = omega arith
