-- A scope place by place on words is the scope of `cse_scoped` by trees, told as words (01, "Scoped fusion"). Assumes nothing.
use Prim.Native.Nat.{ℕ, suc}
use mathlib.Core.Path.{◌≡◌, refl}
use mathlib.Core.Bool.{true, false, ◌&&◌}
use mathlib.Core.Option.{some}
use mathlib.Core.List.{List, []}
use lib.Dec.{leb}
use Rattle.spec_tree.specs.Outcome.{Outcome, ok, refused, by, ◌>>=◌}
use Rattle.spec_tree.specs.Tree.{Tree}
use Rattle.spec_tree.specs.Rows.{Row, occurrences}
use Rattle.spec_tree.specs.Tokens.{read, numbered, trees_in, name_in}
use Rattle.spec_cse.specs.Scope.{Scoped, scope_rows, opens}
use Rattle.laws.proofs.cse.Outcomes.{Good}
use Rattle.laws.specs.positions.Shown.{cse_scope_by}
use Rattle.laws.proofs.positions.BestPlace.{text_of}
use Rattle.fusion.specs.place.Whole.{scope_told}
use Rattle.scope_laws.specs.told.Told.{told}
use Rattle.scope_laws.proofs.told.Walking.{Proper}
use Rattle.scope_laws.proofs.told.Whole.{scope_body, KeepsSound, KeepsOrder, scoped_proper, told_is}

module _ (rows : List Row) where
  -- the scope by trees, its texts those under the names of the rows
  abbrev pub by_trees : ℕ → ℕ → ℕ → List Tree → Outcome Scoped
  by_trees fuel left next es = cse_scope_by (text_of [] (name_in rows)) fuel left true next es

  none_open : (left next : ℕ) (es : List Tree) → by_trees 0 left next es ≡ refused (by 23)
  unfolding cse_scope_by
  none_open left next es = refl

  more_open :
      (fuel left next : ℕ) (es : List Tree)
      → by_trees (suc fuel) left next es
      ≡ (elim (leb (occurrences es) left && (leb (occurrences es) 1927 && leb next 2147483648)) as (λ _. Outcome Scoped) [
        | true ↦ scope_body rows (λ i n l. by_trees fuel i n l) left next es
        | false ↦ refused (by 23)
      ])
  unfolding cse_scope_by opens scope_rows
  more_open fuel left next es = refl

  -- its numbers don't go back, and it has a value for each tree
  pub by_trees_proper : (fuel left next : ℕ) (es : List Tree) → Good (Proper next es) (by_trees fuel left next es)
  by_trees_proper fuel left next es = scoped_proper rows by_trees none_open more_open fuel left next es

  module _
      (Sound : ℕ → List ℕ → Type 0) (whole : (next : ℕ) (ws : List ℕ) → Sound next ws → (m : ℕ) × (trees_in ws ≡ some m)) (keeps : KeepsSound rows Sound)
      (ordered : (fuel left : ℕ) → KeepsOrder rows Sound (λ n l. cse_scope_by (text_of [] (name_in rows)) fuel left true n l))
    where
      pub scope_told_is :
          (fuel left row next : ℕ) (ws : List ℕ) → Sound next ws
          → scope_told rows fuel left row next ws ≡ (cse_scope_by (text_of [] (name_in rows)) fuel left true next (read numbered ws) >>= λ a. ok (told row a))
      scope_told_is fuel left row next ws s = told_is rows by_trees none_open more_open Sound whole keeps ordered fuel left row next ws s
