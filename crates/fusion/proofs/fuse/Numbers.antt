-- Numbers all of which have a word. Assumes nothing.
use Prim.Native.Nat.{ℕ, zero, suc, ◌≤◌, ◌<◌}
use native.Mathlib.Omega.{arith}
use mathlib.Core.Path.{◌≡◌, refl, sym, ap, subst}
use mathlib.Core.Bool.{Bool, true, false, ◌&&◌}
use mathlib.Core.List.{List, [], ◌∷◌}
use lib.ListN.{length, get_or, take}
use lib.Dec.{leb, T, leb→le}
use Rattle.spec_tree.proofs.Logic.{and_left, and_right}
use Rattle.fusion.specs.fuse.Answers.{all_small}
use Rattle.fusion.specs.tables.Names.{names_fit}

-- the test of a row of names is the same
pub fit_small : (l : List ℕ) → names_fit l ≡ all_small l
unfolding names_fit all_small
fit_small [] = refl
fit_small (n ∷ l) = ap (λ (b : Bool). leb n 549755813888 && b) (fit_small l)

-- each is small
small_first : (n : ℕ) (b : Bool) → (leb n 549755813888 && b) ≡ true → (n ≤ 549755813888) × (b ≡ true)
small_first n b e =
    let t : T (leb n 549755813888 && b) = subst T (sym e) tt in
    (leb→le n 549755813888 (and_left (leb n 549755813888) b t), is_so b (and_right (leb n 549755813888) b t))
  where
    is_so : (c : Bool) → T c → c ≡ true
    is_so true h = refl
    is_so false h = absurd h

pub each_small : (m : ℕ) (l : List ℕ) (k : ℕ) → all_small (take m l) ≡ true → k < m → k < length l → get_or l k 0 ≤ 549755813888
unfolding all_small
each_small zero l k e h g = absurd (omega arith)
each_small (suc m) [] k e h g = absurd (omega arith)
each_small (suc m) (n ∷ l) zero e h g = (small_first n (all_small (take m l)) e).0
each_small (suc m) (n ∷ l) (suc k) e h g = each_small m l k (small_first n (all_small (take m l)) e).1 (omega arith) (omega arith)
