-- The scoped call of extract is the scope, place by place, of the words of the roots' trees (01, "Turned down": Extract, "Scoped fusion"). Assumes nothing.
use Prim.Native.Nat.{ℕ}
use mathlib.Core.Path.{◌≡◌, refl, sym, ◌∙◌, subst}
use mathlib.Core.Bool.{true}
use mathlib.Core.List.{List, []}
use lib.Dec.{T}
use Rattle.spec_tree.specs.Outcome.{Outcome, ok, refused, ◌>>=◌}
use Rattle.spec_tree.specs.Tree.{Name, input, xname, mname, Tree}
use Rattle.spec_tree.specs.Rows.{Row, Table, trees}
use Rattle.spec_tree.specs.Layout.{table_of, laid_out}
use Rattle.spec_tree.specs.Tokens.{read, numbered, name_in}
use Rattle.spec_tree.proofs.TokenCode.{unnumbered, renamed_name}
use Rattle.spec_tree.proofs.LayoutLaws.{laid_out_passes}
use Rattle.spec_rewrite.proofs.Names.{holds_all, below}
use Rattle.spec_cse.specs.AnswerRows.{result_row}
use Rattle.spec_cse.specs.Scope.{Scoped, area_rows}
use Rattle.laws.proofs.cse.PassesLaws.{passes_unmade}
use Rattle.laws.proofs.cse.ScopeValue.{under}
use Rattle.laws.specs.positions.Names.{is_number}
use Rattle.laws.specs.positions.Shown.{cse_scope_by}
use Rattle.laws.proofs.positions.BestPlace.{text_of}
use Rattle.laws.proofs.positions.Calls.{laid_expressions}
use Rattle.laws.proofs.positions.Renaming.{holds_all_renamed}
use Rattle.laws.proofs.positions.RowNames.{names_of, tree_words, table_renamed}
use Rattle.rounds.proofs.kept.Steps.{ready_so}
use Rattle.cse_flat.specs.refined.Parts.{extract_from}
use Rattle.cse_flat.proofs.refined.Starting.{start_passes, start_ready}
use Rattle.scope_laws.specs.told.Told.{told as told_words}
use Rattle.scope_laws.proofs.agree.Sound.{Sound}
use Rattle.scope_laws.proofs.agree.Agree.{scope_agrees}
use Rattle.scope_laws.specs.measured.Roots.{scopes, told, roots_rows}
use Rattle.scope_laws.proofs.measured.Scoped.{ScopeIs, scoped_rows}

-- ---- the words of the roots' trees

-- a name's number is not changed by a renaming
blind : (rows : List Row) (n : Name) → under 0 (renamed_name unnumbered (name_in rows) n) ≡ under 0 n
unfolding renamed_name below
blind rows (input s) = refl
blind rows (xname i) = refl
blind rows (mname i) = refl

module _ (rows roots : List ℕ) (h : T (laid_out rows roots)) where
  abbrev t : Table
  t = table_of rows roots

  unnamed : T (holds_all (under 0) (read numbered (tree_words t)))
  unnamed =
      subst T (holds_all_renamed (names_of t.rows) (under 0) (blind t.rows) (read numbered (tree_words t)))
      (subst (λ (l : List Tree). T (holds_all (under 0) l)) (sym (table_renamed t (laid_expressions rows roots h))) (passes_unmade (trees t) (laid_out_passes rows roots h)))

  pub start_sound : Sound (table_of rows roots).rows (is_number (table_of rows roots).rows) 0 (tree_words (table_of rows roots))
  start_sound = record { words = ready_so t.rows 0 (tree_words t) (start_ready rows roots h); pass = start_passes rows roots h; names = unnamed }

  -- the scope of a table's words is the definition's
  pub scope_is : ScopeIs (table_of rows roots)
  scope_is =
      scope_agrees t.rows (is_number t.rows) scopes area_rows result_row 0 (tree_words t) start_sound
      ∙ same_told (cse_scope_by (text_of [] (name_in t.rows)) scopes area_rows true 0 (read numbered (tree_words t)))
    where
      same_told : (o : Outcome Scoped) → (o >>= λ a. ok (told_words result_row a)) ≡ (o >>= λ a. ok (told result_row a))
      same_told (ok a) = (unfold told in unfold told_words in refl)
      same_told (refused i) = refl

-- the call after 8
pub scoped_call : (rows roots : List ℕ) (lent : ℕ) → extract_from true rows roots lent ≡ roots_rows rows roots lent
scoped_call rows roots lent = scoped_rows rows roots lent (λ h. scope_is rows roots h)
