-- The scope of the roots has no more rows than a word counts. Assumes nothing.
use Prim.Native.Nat.{ℕ, ◌≤◌}
use native.Mathlib.Omega.{arith}
use mathlib.Core.Path.{◌≡◌, refl, sym, subst}
use mathlib.Core.Bool.{Bool, true, false, cond}
use mathlib.Core.List.{List}
use lib.Dec.{T}
use Rattle.spec_tree.specs.Outcome.{Outcome, ok, refused, by}
use Rattle.spec_tree.specs.Layout.{table_of, laid_out}
use Rattle.spec_cse.specs.AnswerRows.{result_row}
use Rattle.spec_cse.specs.Scope.{area_rows}
use Rattle.laws.proofs.cse.Outcomes.{Good}
use Rattle.fmt.specs.checked.Check.{rows_in}
use Rattle.laws.specs.positions.Names.{is_number}
use Rattle.laws.proofs.positions.RowNames.{tree_words}
use Rattle.cse_flat.proofs.refined.Flat.{flat_extractable, flat_symbols}
use Rattle.fusion.specs.place.Whole.{Told, scope_told}
use Rattle.scope_laws.proofs.sound.Bounds.{ScopeBound, scope_bounded, rows_most}
use Rattle.cse_scoped.specs.one_scope.Answers.{told_rows}
use Rattle.cse_scoped.specs.one_scope.Frame.{most_rows}
use Rattle.scope_laws.specs.measured.Roots.{scopes, roots_told}

few_rows : (o : Outcome Told) → Good (ScopeBound 0) o → told_rows o ≤ most_rows
unfolding Good told_rows
few_rows (ok a) b = omega (arith, rows_most 0 a b)
few_rows (refused i) b = omega arith

pub rows_within : (rows roots : List ℕ) → told_rows (roots_told rows roots) ≤ most_rows
unfolding roots_told
rows_within rows roots = go (laid_out rows roots) refl
  where
    start : List ℕ
    start = tree_words (table_of rows roots)

    go : (b : Bool) → laid_out rows roots ≡ b → told_rows (cond b (scope_told (rows_in rows) scopes area_rows result_row 0 (tree_words (table_of rows roots))) (refused (by 9))) ≤ most_rows
    go true e =
        let h = subst T (sym e) tt in
        few_rows (scope_told (rows_in rows) scopes area_rows result_row 0 start)
        (scope_bounded (rows_in rows) (is_number (rows_in rows)) scopes area_rows result_row 0 start (flat_extractable rows roots 0 h start refl) (flat_symbols rows roots 0 h start refl))
    go false e = few_rows (refused (by 9)) (unfold Good in tt)
