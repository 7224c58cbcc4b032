-- What the scoped form answers and leaves, by what unfolding and the scope of the roots answer (01, "Turned down": Extract). Assumes nothing.
use Prim.Native.Nat.{ℕ, suc, ◌+◌, ◌≤◌}
use native.Mathlib.Nat.{zero-add}
use native.Mathlib.Omega.{arith}
use mathlib.Core.Path.{◌≡◌, refl, sym, ◌∙◌, ap, ap₂, subst}
use mathlib.Core.Bool.{Bool, true, false, ◌||◌, cond}
use mathlib.Core.List.{List, ◌++◌}
use lib.ListN.{length, take, drop}
use lib.Seq.{take-append_seam}
use lib.Dec.{T, ltb}
use Rattle.spec_tree.specs.Outcome.{Outcome, ok, refused, by, ◌>>=◌}
use Rattle.spec_tree.specs.Layout.{table_of, laid_out}
use Rattle.spec_tree.proofs.Tests.{is_true}
use Rattle.spec_cse.specs.AnswerRows.{result_row}
use Rattle.spec_cse.specs.Scope.{area_rows}
use Rattle.spec_cse.specs.Call.{Extracted, work_words, work_bytes, extract_call, table_after}
use Rattle.fmt.specs.checked.Check.{rows_in}
use Rattle.laws.proofs.positions.RowNames.{tree_words}
use Rattle.fusion.specs.place.Overlay.{overlay}
use Rattle.fusion.specs.place.Whole.{Told, scope_told}
use Rattle.fusion.proofs.tables.Laws.{overlay_none, overlay_front}
use Rattle.cse_scoped.proofs.one_scope.Laying.{laid_exact}
use Rattle.cse_flat.specs.refined.Parts.{extract_from}
use Rattle.cse_flat.proofs.refined.Ending.{call_short, call_enough}
use Rattle.cse_flat.specs.Answers.{extraction_answer}
use Rattle.cse_flat.specs.Extraction.{Extraction}
use Rattle.cse_flat.specs.Extraction as extraction
use Rattle.cse_flat.proofs.Ends.{AnswersBy, refuses}
use Rattle.cse_scoped.specs.one_scope.Answers.{scope_answer, ScopeLaid, told_rows}
use Rattle.cse_scoped.specs.one_scope.Scoped.{Scoped}
use Rattle.cse_scoped.specs.one_scope.Scoped as scoped
use Rattle.scope_laws.specs.measured.Roots.{scopes, roots_told, told_or_12, roots_rows}
use Rattle.scope_laws.proofs.measured.Measuring.{too_few, enough, table_told}
use Rattle.cse_scoped.specs.Kept.{Keeps}

-- what the scope of the roots answers and leaves in a table
abbrev pub ScopesBy : Outcome Told → List ℕ → Scoped → List ℕ → Type 0
ScopesBy o old r new = (r ≡ scope_answer o 0) × ScopeLaid o 0 old new

-- by another name of the number
pub stops_so : (o : Outcome Told) (old : List ℕ) (p q : ℕ) → p ≡ q → ScopesBy o old (scoped.Refused p) old → ScopesBy o old (scoped.Refused q) old
stops_so o old p q e = subst (λ (n : ℕ). ScopesBy o old (scoped.Refused n) old) e

-- the same table by another name
pub laid_by : (o : Outcome Told) (old kept new : List ℕ) → new ≡ kept → ScopeLaid o 0 old kept → ScopeLaid o 0 old new
laid_by o old kept new e l = subst (λ (z : List ℕ). ScopeLaid o 0 old z) (sym e) l

-- ---- the scope of the roots

module _ (rows roots : List ℕ) where
  abbrev by_layout : Bool → Outcome Told
  by_layout b = cond b (scope_told (rows_in rows) scopes area_rows result_row 0 (tree_words (table_of rows roots))) (refused (by 9))

  roots_are : roots_told rows roots ≡ by_layout (laid_out rows roots)
  unfolding roots_told
  roots_are = refl

  pub scope_nine : laid_out rows roots ≡ false → (table : List ℕ) → ScopesBy (roots_told rows roots) table (scoped.Refused 9) table
  unfolding scope_answer
  scope_nine e table = subst (λ (o : Outcome Told). ScopesBy o table (scoped.Refused 9) table) (sym (roots_are ∙ ap by_layout e)) (refl, refl)

  -- with the whole area left
  module _ (h : T (laid_out rows roots)) (ws : List ℕ) (same : ws ≡ tree_words (table_of rows roots)) (left : ℕ) (all : left ≡ area_rows) where
    roots_scope : roots_told rows roots ≡ scope_told (rows_in rows) scopes left result_row 0 ws
    roots_scope = roots_are ∙ ap by_layout (is_true (laid_out rows roots) h) ∙ ap₂ (λ (n : ℕ) (z : List ℕ). scope_told (rows_in rows) scopes n result_row 0 z) (sym all) (sym same)

    pub scope_within : (n : ℕ) → told_rows (roots_told rows roots) ≤ n → 0 + told_rows (scope_told (rows_in rows) scopes left result_row 0 ws) ≤ n
    scope_within n b = omega (arith, ap told_rows roots_scope, b)

    pub scope_there : (old : List ℕ) (r : Scoped) (new : List ℕ) → ScopesBy (scope_told (rows_in rows) scopes left result_row 0 ws) old r new → ScopesBy (roots_told rows roots) old r new
    scope_there old r new g = subst (λ (o : Outcome Told). ScopesBy o old r new) (sym roots_scope) g

-- ---- its rows, counted

told_end : Scoped → ℕ
told_end (scoped.Told n s m x) = n
told_end (scoped.Refused q) = 0

end_is : (o : Outcome Told) → told_end (scope_answer o 0) ≡ told_rows o
unfolding told_end scope_answer told_rows
end_is (ok a) = zero-add (length a.words)
end_is (refused i) = refl

module _ (o : Outcome Told) (r : Scoped) (is : r ≡ scope_answer o 0) where
  pub counts_rows : (n s m x : ℕ) → r ≡ scoped.Told n s m x → n ≡ told_rows o
  unfolding told_end
  counts_rows n s m x e = ap told_end (sym e ∙ is) ∙ end_is o

  pub counts_none : (q : ℕ) → r ≡ scoped.Refused q → 0 ≡ told_rows o
  unfolding told_end
  counts_none q e = ap told_end (sym e ∙ is) ∙ end_is o

-- rows laid over words that they fit stand in front of them, and can be laid over any table from there
module _ (o : Outcome Told) (r : Scoped) (is : r ≡ scope_answer o 0) where
  pub keeps : (n s m x : ℕ) → r ≡ scoped.Told n s m x → (base kept : List ℕ) → ScopeLaid o 0 base kept → Keeps o n kept
  unfolding told_rows
  keeps n s m x e base kept k h old = go o (counts_rows o r is n s m x e) k
    where
      go : (p : Outcome Told) → n ≡ told_rows p → ScopeLaid p 0 base kept → ScopeLaid p 0 old (overlay 0 (take n kept) old)
      go (ok a) q f =
          let fits : 0 + length a.words ≤ length base = omega (arith, q, h, f.long) in
          let there : kept ≡ a.words ++ drop (length a.words) base = f.all fits ∙ overlay_front a.words base (omega (arith, fits)) in
          laid_exact 0 a.words old (overlay 0 (take n kept) old)
          (ap (λ (l : List ℕ). overlay 0 l old) (ap (λ (k : ℕ). take k kept) q ∙ ap (λ (l : List ℕ). take (length a.words) l) there ∙ take-append_seam a.words (drop (length a.words) base)))
      go (refused i) q f = ap (λ (k : ℕ). overlay 0 (take k kept) old) q ∙ overlay_none 0 old

  -- and a scope that is refused leaves any table as it was
  pub leaves : (q : ℕ) → r ≡ scoped.Refused q → (old : List ℕ) → ScopeLaid o 0 old old
  unfolding scope_answer
  leaves q e old = go o (sym e ∙ is)
    where
      told : Scoped → ℕ
      told (scoped.Told n s m x) = 1
      told (scoped.Refused q) = 0

      go : (p : Outcome Told) → scoped.Refused q ≡ scope_answer p 0 → ScopeLaid p 0 old old
      go (ok a) c = (let z : ◌≡◌ {A = ℕ} 0 1 = ap told c in absurd (omega arith))
      go (refused i) c = refl

-- ---- and written

module _ (rows roots table : List ℕ) where
  abbrev o : Outcome Told
  o = roots_told rows roots

  abbrev call : Outcome Extracted
  call = roots_rows rows roots (length table)

  abbrev rest : Outcome Told → Outcome Extracted
  rest p = p >>= λ a. told_or_12 (length table) a

  call_is : call ≡ rest o
  unfolding roots_rows
  call_is = refl

  module _ (count : ℕ) (is : count ≡ told_rows o) where
    pub twelve : suc (length table) ≤ count → AnswersBy call table (extraction.Refused 12) table
    unfolding told_rows
    twelve h = refuses call (by 12) (call_is ∙ go o (omega (arith, is, h))) table
      where
        go : (p : Outcome Told) → suc (length table) ≤ told_rows p → rest p ≡ refused (by 12)
        go (ok a) g = too_few (length table) a g
        go (refused i) g = absurd (omega arith)

    module _ (h : count ≤ length table) (r : Scoped) (new : List ℕ) (given : ScopesBy o table r new) where
      abbrev By : Scoped → Type 0
      By (scoped.Told n s m x) = AnswersBy call table (extraction.Rows n x) new
      By (scoped.Refused q) = AnswersBy call table (extraction.Refused q) new

      by_outcome : (p : Outcome Told) → o ≡ p → ScopeLaid p 0 table new → told_rows p ≤ length table → By (scope_answer p 0)
      unfolding scope_answer told_rows extraction_answer table_after
      by_outcome (ok a) e t l =
          subst (λ (x : Outcome Extracted). AnswersBy x table (extraction.Rows (0 + length a.words) a.extracted) new)
          (sym (call_is ∙ ap rest e ∙ enough (length table) a l))
          (ap (λ (n : ℕ). extraction.Rows n a.extracted) (zero-add (length a.words)), t.all (omega (arith, l)) ∙ table_told a table l ∙ ap (λ (x : Outcome Extracted). table_after x table) (enough (length table) a l))
      by_outcome (refused i) e t l =
          subst (λ (x : Outcome Extracted). AnswersBy x table (extraction.Refused i.number) new) (sym (call_is ∙ ap rest e)) (refl, t)

      written : By r
      written = subst By (sym given.0) (by_outcome o refl given.1 (omega (arith, is, h)))

      pub writes_rows : (n s m x : ℕ) → r ≡ scoped.Told n s m x → AnswersBy call table (extraction.Rows n x) new
      writes_rows n s m x e = subst By e written

      pub writes_none : (q : ℕ) → r ≡ scoped.Refused q → AnswersBy call table (extraction.Refused q) new
      writes_none q e = subst By e written

-- ---- the whole

module _ (rows roots : List ℕ) (words bytes : ℕ) (table : List ℕ) where
  abbrev whole : Outcome Extracted
  whole = extract_call true words bytes rows roots (length table)

  abbrev short : Bool
  short = ltb words work_words || ltb bytes work_bytes

  pub is_eight : short ≡ true → AnswersBy whole table (extraction.Refused 8) table
  is_eight e = refuses whole (by 8) (call_short true words bytes rows roots (length table) e) table

  pub is_rest :
      extract_from true rows roots (length table) ≡ roots_rows rows roots (length table) → short ≡ false → (r : Extraction) (new : List ℕ)
      → AnswersBy (roots_rows rows roots (length table)) table r new → AnswersBy whole table r new
  is_rest law e r new h = subst (λ (o : Outcome Extracted). AnswersBy o table r new) (sym (call_enough true words bytes rows roots (length table) e ∙ law)) h
