-- The kinds that have no name in a text. Assumes nothing.
use Prim.Native.Nat.{ℕ, zero, suc, ◌≤◌, ◌<◌}
use native.Mathlib.Omega.{arith}
use mathlib.Core.Path.{◌≡◌, refl, sym, ap}
use mathlib.Core.Bool.{Bool, true, false}
use mathlib.Core.List.{List, []}
use borrow.Author.Tests.{ltb-true, ltb-false}
use lib.Dec.{ltb}
use lib.ListN.{get_or-eq_default}
use Rattle.spec_tree.specs.Kinds.{Kind, kinds, kind_at, printed_name}

-- the leaves, Neg and the infix kinds
before_all : (k : ℕ) → k < 8 → ◌≡◌ {A = List ℕ} [] (printed_name k)
unfolding printed_name kind_at kinds
before_all zero h = refl
before_all (suc zero) h = refl
before_all (suc (suc zero)) h = refl
before_all (suc (suc (suc zero))) h = refl
before_all (suc (suc (suc (suc zero)))) h = refl
before_all (suc (suc (suc (suc (suc zero))))) h = refl
before_all (suc (suc (suc (suc (suc (suc zero)))))) h = refl
before_all (suc (suc (suc (suc (suc (suc (suc zero))))))) h = refl
before_all (suc (suc (suc (suc (suc (suc (suc (suc k)))))))) h = absurd (omega arith)

-- past the table
past_all : (k : ℕ) → 29 ≤ k → ◌≡◌ {A = List ℕ} [] (printed_name k)
unfolding printed_name kind_at kinds
past_all k h = sym (ap (λ (r : Kind). r.printed) (get_or-eq_default kinds (kind_at 29) {n = k} h))

pub nameless : (k : ℕ) → (8 ≤ k → k ≤ 28 → ⊥) → ◌≡◌ {A = List ℕ} [] (printed_name k)
nameless k n = go (ltb k 8) refl
  where
    go : (b : Bool) → ltb k 8 ≡ b → ◌≡◌ {A = List ℕ} [] (printed_name k)
    go true e = before_all k (ltb-true k 8 e)
    go false e = let h = ltb-false k 8 e in past_all k (omega (arith, n))
