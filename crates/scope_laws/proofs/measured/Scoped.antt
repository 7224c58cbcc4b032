-- The scoped call of extract is the scope of the words of the roots' trees, with its refusals in order (01, "Turned down": Extract), where that scope is that of
-- the definition. Assumes nothing else.
use Prim.Native.Nat.{ℕ}
use mathlib.Core.Path.{◌≡◌, refl, sym, ◌∙◌, ap, subst}
use mathlib.Core.Bool.{Bool, true, false, cond}
use mathlib.Core.List.{List}
use lib.Dec.{T, ltb}
use Rattle.spec_tree.specs.Outcome.{Outcome, ok, refused, by, ◌>>=◌}
use Rattle.spec_tree.specs.Rows.{Table}
use Rattle.spec_tree.specs.Layout.{table_of, laid_out}
use Rattle.spec_tree.specs.Tokens.{read, numbered}
use Rattle.spec_tree.proofs.TokenCode.{unnumbered}
use Rattle.fmt.specs.checked.Check.{rows_in}
use Rattle.spec_cse.specs.Answer.{rows}
use Rattle.spec_cse.specs.AnswerRows.{result_row, answer_words}
use Rattle.spec_cse.specs.Scope.{Scoped, area_rows, scopes_open, as_answer}
use Rattle.spec_cse.specs.Call.{work_words, work_bytes}
use Rattle.laws.proofs.cse.RowCount.{answer_long}
use Rattle.laws.specs.positions.Shown.{cse_scope_by, answer_by}
use Rattle.laws.proofs.positions.Extraction.{shown}
use Rattle.laws.proofs.positions.RowNames.{names_of, tree_words}
use Rattle.laws.proofs.positions.Calls.{written, call_from_words}
use Rattle.fusion.specs.place.Whole.{Told, scope_told}
use Rattle.cse_flat.specs.refined.Parts.{extract_from}
use Rattle.cse_flat.proofs.refined.Ending.{call_enough, from_nine}
use Rattle.scope_laws.specs.measured.Roots.{scopes, told, roots_told, told_or_12, roots_rows}

-- ---- an answer's rows from its scope

answer_told : (lent : ℕ) (a : Scoped) → written unnumbered lent (as_answer a) ≡ told_or_12 lent (told result_row a)
unfolding told_or_12 told as_answer answer_words
answer_told lent a =
    ap (λ (n : ℕ). cond (ltb lent n) (refused (by 12)) (ok (record { words = answer_words unnumbered (as_answer a); extracted = a.extracted }))) (sym (answer_long unnumbered (as_answer a)))

from_scope :
    (lent : ℕ) (o : Outcome Scoped)
    → ((o >>= λ a. ok (as_answer a)) >>= λ a. written unnumbered lent a) ≡ ((o >>= λ a. ok (told result_row a)) >>= λ a. told_or_12 lent a)
from_scope lent (ok a) = answer_told lent a
from_scope lent (refused i) = refl

-- ---- the call

-- that the scope of a table's words is the definition's, as words
abbrev pub ScopeIs : Table → Type 0
ScopeIs t =
    scope_told t.rows scopes area_rows result_row 0 (tree_words t)
    ≡ (cse_scope_by (shown (names_of t.rows)) scopes area_rows true 0 (read numbered (tree_words t)) >>= λ a. ok (told result_row a))

module _ (rows roots : List ℕ) (lent : ℕ) (law : T (laid_out rows roots) → ScopeIs (table_of rows roots)) where
  abbrev t : Table
  t = table_of rows roots

  laid : T (laid_out rows roots) → extract_from true rows roots lent ≡ (scope_told t.rows scopes area_rows result_row 0 (tree_words t) >>= λ a. told_or_12 lent a)
  unfolding answer_by scopes_open
  laid h =
      sym (call_enough true work_words work_bytes rows roots lent refl)
      ∙ call_from_words true work_words work_bytes rows roots lent refl h
      ∙ from_scope lent (cse_scope_by (shown (names_of t.rows)) scopes area_rows true 0 (read numbered (tree_words t)))
      ∙ ap (λ (o : Outcome Told). o >>= λ a. told_or_12 lent a) (sym (law h))

  -- The call after 8.
  pub scoped_rows : extract_from true rows roots lent ≡ roots_rows rows roots lent
  unfolding roots_rows roots_told
  scoped_rows = go (laid_out rows roots) refl
    where
      go : (b : Bool) → laid_out rows roots ≡ b
          → extract_from true rows roots lent ≡ (cond b (scope_told (rows_in rows) scopes area_rows result_row 0 (tree_words t)) (refused (by 9)) >>= λ a. told_or_12 lent a)
      go true e = laid (subst T (sym e) tt)
      go false e = from_nine true 0 0 rows roots lent e
