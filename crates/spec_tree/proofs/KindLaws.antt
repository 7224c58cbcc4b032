-- The table of kinds has 29 entries, and past it no count of operands is right. Assumes nothing.
use Prim.Native.Nat.{ℕ, ◌≤◌, ◌<◌, ◌-◌}
use mathlib.Core.Path.{◌≡◌, refl, ap}
use mathlib.Core.Bool.{Bool, true, false, ◌&&◌}
use native.Mathlib.Omega.{arith}
use borrow.Author.Tests.{ltb-true, ltb-false}
use lib.Dec.{T, leb, ltb, leb→le}
use lib.ListN.{length, get_or-eq_default}
use Rattle.spec_tree.specs.Kinds.{Kind, kinds, kind_at, arity_ok}
use Rattle.spec_tree.proofs.Logic.{and_left, and_right}

pub kinds_long : length kinds ≡ 29
unfolding kinds
kinds_long = refl

-- past the table no count of operands is right
past : (k : ℕ) → 29 ≤ k → ((kind_at k).fewest ≡ 1) × ((kind_at k).most ≡ 0)
unfolding kind_at
past k h =
    let g : length kinds ≤ k = (let l = kinds_long in omega arith) in
    (ap (λ (q : Kind). q.fewest) (get_or-eq_default kinds _ g), ap (λ (q : Kind). q.most) (get_or-eq_default kinds _ g))

pub arity_kind : (k n : ℕ) → T (arity_ok k n) → k < 29
arity_kind k n h = go (ltb k 29) refl
  where
    unfit : T (arity_ok k n) → 29 ≤ k → ⊥
    unfit h l =
        let p = past k l in
        let a = leb→le (kind_at k).fewest n (and_left (leb (kind_at k).fewest n) (leb n (kind_at k).most) (unfold arity_ok in h)) in
        let b = leb→le n (kind_at k).most (and_right (leb (kind_at k).fewest n) (leb n (kind_at k).most) (unfold arity_ok in h)) in
        omega arith

    go : (b : Bool) → ltb k 29 ≡ b → k < 29
    go true e = ltb-true k 29 e
    go false e = absurd (unfit h (ltb-false k 29 e))

pub arity_by : (k n : ℕ) → arity_ok k n ≡ (leb (kind_at k).fewest n && leb n (kind_at k).most)
unfolding arity_ok
arity_by k n = refl
