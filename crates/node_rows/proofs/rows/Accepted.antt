-- What the answer of `check_rows` says: words that it lets through are a loadable table's, whose trees are what demand 3 asks of a list, and it refuses no
-- others. Assumes nothing.
use Prim.Native.Nat.{ℕ}
use mathlib.Core.Path.{◌≡◌}
use mathlib.Core.Bool.{Bool, true, false, cond}
use mathlib.Core.List.{List}
use native.Mathlib.Omega.{arith}
use lib.Dec.{T}
use Rattle.spec_tree.specs.Outcome.{Outcome, ok, refused, Refusal, by, ◌>>=◌}
use Rattle.spec_tree.specs.Rows.{trees, occurrences}
use Rattle.spec_tree.specs.Passes.{passes}
use Rattle.spec_tree.specs.Layout.{table_of, laid_out, table_or_9}
use Rattle.spec_tree.proofs.LayoutLaws.{Laid, laid_out_sound, laid_out_complete, laid_out_passes}
use Rattle.node_rows.specs.rows.Nine.{check_rows}

abbrev answer : List ℕ → List ℕ → Bool → Outcome ℕ
answer ws ns b = cond b (ok (table_of ws ns)) (refused (by 9)) >>= λ t. ok (occurrences (trees t))

pub record Accepted (ws ns : List ℕ) (m : ℕ) : Type 0 where
  pub laid : Laid ws ns
  pub passing : T (passes (trees (table_of ws ns)))
  pub count : m ≡ occurrences (trees (table_of ws ns))

pub accepted : (ws ns : List ℕ) (m : ℕ) → check_rows ws ns ≡ ok m → Accepted ws ns m
unfolding check_rows table_or_9
accepted ws ns m e = go (laid_out ws ns) (λ t. t) e
  where
    go : (b : Bool) → (T b → T (laid_out ws ns)) → answer ws ns b ≡ ok m → Accepted ws ns m
    go true f e = record { laid = laid_out_sound ws ns (f tt); passing = laid_out_passes ws ns (f tt); count = cc }
    go false f e = let z : ◌≡◌ {A = ℕ} 0 1 = cc in absurd (omega arith)

pub refused_only : (ws ns : List ℕ) (r : Refusal) → check_rows ws ns ≡ refused r → (r ≡ by 9) × (Laid ws ns → ⊥)
unfolding check_rows table_or_9
refused_only ws ns r e = go (laid_out ws ns) (λ t. t) e
  where
    go : (b : Bool) → (T (laid_out ws ns) → T b) → answer ws ns b ≡ refused r → (r ≡ by 9) × (Laid ws ns → ⊥)
    go true f e = let z : ◌≡◌ {A = ℕ} 0 1 = cc in absurd (omega arith)
    go false f e = (cc, λ l. f (laid_out_complete ws ns l))
