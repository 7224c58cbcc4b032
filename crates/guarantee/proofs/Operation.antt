-- What the contract of extract says of every list (01, "Turned down": Extract; "Value, for demand 3"): by which numbers a call is refused, and that the rows of an
-- answered call are those of an answer that demand 3 speaks of. The contract's definition is `extract-call`, in both forms. Assumes nothing.
use Prim.Native.Nat.{ℕ, ◌≤◌, ◌<◌}
use mathlib.Core.Path.{◌≡◌, refl, sym, ◌∙◌, ap, subst}
use mathlib.Core.Logic.{◌⊎◌, inl, inr}
use mathlib.Core.Bool.{Bool, true, false, not, ◌||◌, cond}
use mathlib.Core.List.{List}
use native.Mathlib.Omega.{arith}
use lib.Dec.{T, ltb, ltb→lt, nltb→le}
use Rattle.spec_tree.specs.Outcome.{Refusal, Outcome, ok, refused, by, ◌>>=◌}
use Rattle.spec_tree.specs.Rows.{Table, trees}
use Rattle.spec_tree.specs.Passes.{passes}
use Rattle.spec_tree.specs.Layout.{table_of, laid_out, table_or_9}
use Rattle.spec_tree.specs.Tokens.{number_in}
use Rattle.spec_tree.proofs.LayoutLaws.{laid_out_passes}
use Rattle.spec_cse.specs.Answer.{Answer, rows}
use Rattle.spec_cse.specs.AnswerRows.{answer_words}
use Rattle.spec_cse.specs.Scope.{answer}
use Rattle.spec_cse.specs.Call.{Extracted, work_words, work_bytes, extract_call}
use Rattle.spec_cse.specs.Demand.{Demand3}
use Rattle.laws.proofs.cse.BoundSwitches.{no_switch_bound}
use Rattle.guarantee.proofs.Whole.{demand3, flat_refused_by_10, scoped_refused_by_10_or_11}
use Rattle.laws.proofs.cse.Refusals.{refused_by_10_11_or_23}

-- ---- a call by its refusals, in order

module _ (scoped : Bool) (words_lent bytes_lent : ℕ) (node_rows roots : List ℕ) (lent : ℕ) where
  abbrev pub short : Bool
  short = ltb words_lent work_words || ltb bytes_lent work_bytes

  abbrev pub table : Table
  table = table_of node_rows roots

  abbrev pub written : Answer → Extracted
  written a = record { words = answer_words (number_in table.rows) a; extracted = a.extracted }

  pub data Called (o : Outcome Extracted) : Type 0 where
    eight : short ≡ true → o ≡ refused (by 8) → Called o
    nine : laid_out node_rows roots ≡ false → o ≡ refused (by 9) → Called o
    stopped : T (laid_out node_rows roots) → (i : Refusal) → answer scoped (trees table) ≡ refused i → o ≡ refused i → Called o
    twelve : T (laid_out node_rows roots) → (a : Answer) → answer scoped (trees table) ≡ ok a → lent < rows a → o ≡ refused (by 12) → Called o
    answered : T (laid_out node_rows roots) → (a : Answer) → answer scoped (trees table) ≡ ok a → rows a ≤ lent → o ≡ ok (written a) → Called o

  abbrev rows_or_12 : Answer → Outcome Extracted
  rows_or_12 a = cond (ltb lent (rows a)) (refused (by 12)) (ok (written a))

  abbrev steps : Outcome Extracted
  steps = answer scoped (trees table) >>= λ a. rows_or_12 a

  at_end : T (laid_out node_rows roots) → (a : Answer) → answer scoped (trees table) ≡ ok a → Called (rows_or_12 a)
  at_end h a e = go (ltb lent (rows a)) refl
    where
      go : (b : Bool) → ltb lent (rows a) ≡ b → Called (cond b (refused (by 12)) (ok (written a)))
      go true f = twelve h a e (ltb→lt lent (rows a) (subst T (sym f) tt)) refl
      go false f = answered h a e (nltb→le lent (rows a) (subst (λ (b : Bool). T (not b)) (sym f) tt)) refl

  in_steps : T (laid_out node_rows roots) → Called steps
  in_steps h = go (answer scoped (trees table)) refl
    where
      go : (o : Outcome Answer) → answer scoped (trees table) ≡ o → Called (o >>= λ a. rows_or_12 a)
      go (ok a) e = at_end h a e
      go (refused i) e = stopped h i e refl

  pub call_is : Called (extract_call scoped words_lent bytes_lent node_rows roots lent)
  unfolding extract_call table_or_9
  call_is = go short refl
    where
      after : (b : Bool) → laid_out node_rows roots ≡ b
          → Called
          ((cond b (ok (table_of node_rows roots)) (refused (by 9))) >>= λ t.
          answer scoped (trees t) >>= λ a.
          cond (ltb lent (rows a)) (refused (by 12)) (ok (record { words = answer_words (number_in t.rows) a; extracted = a.extracted })))
      after true e = in_steps (subst T (sym e) tt)
      after false e = nine e refl

      go : (b : Bool) → short ≡ b
          → Called
          (cond b (refused (by 8))
          ((cond (laid_out node_rows roots) (ok (table_of node_rows roots)) (refused (by 9))) >>= λ t.
          answer scoped (trees t) >>= λ a.
          cond (ltb lent (rows a)) (refused (by 12)) (ok (record { words = answer_words (number_in t.rows) a; extracted = a.extracted }))))
      go true e = eight e refl
      go false e = after (laid_out node_rows roots) refl

  -- ---- an answered call

  never_both : {a : Extracted} {i : Refusal} → ◌≡◌ {A = Outcome Extracted} (ok a) (refused i) → ⊥
  never_both e = let z : ◌≡◌ {A = ℕ} 0 1 = cc in omega arith

  same_value : {a b : Extracted} → ◌≡◌ {A = Outcome Extracted} (ok a) (ok b) → a ≡ b
  same_value e = cc

  -- the rows and the count are those of the definition's answer for a list that passes 9, of which demand 3 holds
  pub record AnswersFor (x : Extracted) : Type 0 where
    pub an_answer : Answer
    pub is_answer : answer scoped (trees table) ≡ ok an_answer
    pub is_written : x ≡ written an_answer
    pub fits : rows an_answer ≤ lent
    pub passed : T (passes (trees table))
    pub demanded : Demand3 (trees table)

  pub answered_call : (x : Extracted) → extract_call scoped words_lent bytes_lent node_rows roots lent ≡ ok x → AnswersFor x
  answered_call x e = go call_is
    where
      go : Called (extract_call scoped words_lent bytes_lent node_rows roots lent) → AnswersFor x
      go (eight s f) = absurd (never_both (sym e ∙ f))
      go (nine s f) = absurd (never_both (sym e ∙ f))
      go (stopped h i s f) = absurd (never_both (sym e ∙ f))
      go (twelve h a s l f) = absurd (never_both (sym e ∙ f))
      go (answered h a s l f) =
          let p = laid_out_passes node_rows roots h in
          record { an_answer = a; is_answer = s; is_written = same_value (sym e ∙ f); fits = l; passed = p; demanded = demand3 (trees table) p }

  -- ---- a refused call

  same_refusal : {i j : Refusal} → ◌≡◌ {A = Outcome Extracted} (refused i) (refused j) → i ≡ j
  same_refusal e = cc

  -- 8, 9 or 12, or what the steps on the list are refused by
  pub refused_call :
      (P : Refusal → Type 0) → (T (laid_out node_rows roots) → (i : Refusal) → answer scoped (trees table) ≡ refused i → P i) → (r : Refusal)
      → extract_call scoped words_lent bytes_lent node_rows roots lent ≡ refused r → (r ≡ by 8) ⊎ ((r ≡ by 9) ⊎ (P r ⊎ (r ≡ by 12)))
  refused_call P reach r e = go call_is
    where
      go : Called (extract_call scoped words_lent bytes_lent node_rows roots lent) → (r ≡ by 8) ⊎ ((r ≡ by 9) ⊎ (P r ⊎ (r ≡ by 12)))
      go (eight s f) = inl (same_refusal (sym e ∙ f))
      go (nine s f) = inr (inl (same_refusal (sym e ∙ f)))
      go (stopped h i s f) = inr (inr (inl (subst P (sym (same_refusal (sym e ∙ f))) (reach h i s))))
      go (twelve h a s l f) = inr (inr (inr (same_refusal (sym e ∙ f))))
      go (answered h a s l f) = absurd (never_both (sym f ∙ e))

-- ---- the flat form: never 11 or 23

pub flat_refused_by_8_9_10_or_12 :
    (words_lent bytes_lent : ℕ) (node_rows roots : List ℕ) (lent : ℕ) (r : Refusal) → extract_call false words_lent bytes_lent node_rows roots lent ≡ refused r
    → (r ≡ by 8) ⊎ ((r ≡ by 9) ⊎ ((r ≡ by 10) ⊎ (r ≡ by 12)))
flat_refused_by_8_9_10_or_12 words_lent bytes_lent node_rows roots lent =
    refused_call false words_lent bytes_lent node_rows roots lent (λ (r : Refusal). r ≡ by 10)
    (λ h i s. flat_refused_by_10 (trees (table_of node_rows roots)) (laid_out_passes node_rows roots h) i s)

pub flat_never_11 :
    (words_lent bytes_lent : ℕ) (node_rows roots : List ℕ) (lent : ℕ) → extract_call false words_lent bytes_lent node_rows roots lent ≡ refused (by 11) → ⊥
flat_never_11 words_lent bytes_lent node_rows roots lent e = go (flat_refused_by_8_9_10_or_12 words_lent bytes_lent node_rows roots lent (by 11) e)
  where
    number : (n : ℕ) → by 11 ≡ by n → 11 ≡ n
    number n f = ap (λ (r : Refusal). r.number) f

    go : (by 11 ≡ by 8) ⊎ ((by 11 ≡ by 9) ⊎ ((by 11 ≡ by 10) ⊎ (by 11 ≡ by 12))) → ⊥
    go (inl f) = let q = number 8 f in omega arith
    go (inr (inl f)) = let q = number 9 f in omega arith
    go (inr (inr (inl f))) = let q = number 10 f in omega arith
    go (inr (inr (inr f))) = let q = number 12 f in omega arith

-- ---- the scoped form

-- 10, 11 and 12 in their order, 23 after them
in_order : (r : Refusal) → ((r ≡ by 10) ⊎ ((r ≡ by 11) ⊎ (r ≡ by 23))) ⊎ (r ≡ by 12) → (r ≡ by 10) ⊎ ((r ≡ by 11) ⊎ ((r ≡ by 12) ⊎ (r ≡ by 23)))
in_order r (inl (inl f)) = inl f
in_order r (inl (inr (inl f))) = inr (inl f)
in_order r (inl (inr (inr f))) = inr (inr (inr f))
in_order r (inr f) = inr (inr (inl f))

pub scoped_refused_by_8_9_10_11_12_or_23 :
    (words_lent bytes_lent : ℕ) (node_rows roots : List ℕ) (lent : ℕ) (r : Refusal) → extract_call true words_lent bytes_lent node_rows roots lent ≡ refused r
    → (r ≡ by 8) ⊎ ((r ≡ by 9) ⊎ ((r ≡ by 10) ⊎ ((r ≡ by 11) ⊎ ((r ≡ by 12) ⊎ (r ≡ by 23)))))
scoped_refused_by_8_9_10_11_12_or_23 words_lent bytes_lent node_rows roots lent r e =
    go
    (refused_call true words_lent bytes_lent node_rows roots lent (λ (r : Refusal). (r ≡ by 10) ⊎ ((r ≡ by 11) ⊎ (r ≡ by 23)))
    (λ h i s. refused_by_10_11_or_23 true (trees (table_of node_rows roots)) i s) r e)
  where
    go : (r ≡ by 8) ⊎ ((r ≡ by 9) ⊎ (((r ≡ by 10) ⊎ ((r ≡ by 11) ⊎ (r ≡ by 23))) ⊎ (r ≡ by 12)))
        → (r ≡ by 8) ⊎ ((r ≡ by 9) ⊎ ((r ≡ by 10) ⊎ ((r ≡ by 11) ⊎ ((r ≡ by 12) ⊎ (r ≡ by 23)))))
    go (inl f) = inl f
    go (inr (inl f)) = inr (inl f)
    go (inr (inr f)) = inr (inr (in_order r f))

-- and never by 23 where no scope that is reached binds a divisor with a switch outside arms
pub scoped_refused_by_8_9_10_11_or_12 :
    (words_lent bytes_lent : ℕ) (node_rows roots : List ℕ) (lent : ℕ) → T (no_switch_bound (trees (table_of node_rows roots)))
    → (r : Refusal) → extract_call true words_lent bytes_lent node_rows roots lent ≡ refused r
    → (r ≡ by 8) ⊎ ((r ≡ by 9) ⊎ ((r ≡ by 10) ⊎ ((r ≡ by 11) ⊎ (r ≡ by 12))))
scoped_refused_by_8_9_10_11_or_12 words_lent bytes_lent node_rows roots lent p r e =
    go
    (refused_call true words_lent bytes_lent node_rows roots lent (λ (r : Refusal). (r ≡ by 10) ⊎ (r ≡ by 11))
    (λ h i s. scoped_refused_by_10_or_11 (trees (table_of node_rows roots)) (laid_out_passes node_rows roots h) p i s) r e)
  where
    go : (r ≡ by 8) ⊎ ((r ≡ by 9) ⊎ (((r ≡ by 10) ⊎ (r ≡ by 11)) ⊎ (r ≡ by 12))) → (r ≡ by 8) ⊎ ((r ≡ by 9) ⊎ ((r ≡ by 10) ⊎ ((r ≡ by 11) ⊎ (r ≡ by 12))))
    go (inl f) = inl f
    go (inr (inl f)) = inr (inl f)
    go (inr (inr (inl (inl f)))) = inr (inr (inl f))
    go (inr (inr (inl (inr f)))) = inr (inr (inr (inl f)))
    go (inr (inr (inr f))) = inr (inr (inr (inr f)))
