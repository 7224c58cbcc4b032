-- The tests of one word in the code's order: a symbol by its class, a constant by its code, and an operation's count of operands. Assumes nothing.
use Prim.Native.Nat.{ℕ, zero, suc, ◌/◌, ◌%◌, ◌^◌, ◌≤◌, ◌<◌}
use native.Mathlib.Omega.{arith}
use mathlib.Core.Path.{◌≡◌, refl, sym, ap, ap₂}
use mathlib.Core.Bool.{Bool, true, false, cond, ◌&&◌}
use mathlib.Core.List.{List}
use borrow.Author.Tests.{eqb-true, eqb-false, leb-true, leb-false, ltb-true, le-leb, lt-leb, lt-ltb, le-ltb}
use lib.IntN.{pos, negsuc}
use lib.Dec.{eqb, leb, ltb}
use lib.ListN.{length, get_or-eq_default}
use Rattle.spec_tree.specs.Symbol.{is_name}
use Rattle.spec_tree.specs.Kinds.{Kind, kinds, kind_at, arity_ok, Neg, Select, SelectOr}
use Rattle.spec_tree.specs.Passes.{of_paper, symbol_ok, operands_ok}
use Rattle.spec_tree.specs.Tokens.{constant_at, name_by}
use Rattle.spec_tree.proofs.KindLaws.{kinds_long}
use Rattle.node_rows.specs.kinds.Numbers.{kind_number}

-- ---- a symbol by its class

pub made_symbol : (name_at : ℕ → List ℕ) (code : ℕ) → (code % 3 ≡ 0 → ⊥) → true ≡ symbol_ok (name_by name_at (code % 3) (code / 3))
made_symbol name_at code n = go (code % 3) n
  where
    go : (class : ℕ) → (class ≡ 0 → ⊥) → true ≡ symbol_ok (name_by name_at class (code / 3))
    go zero n = absurd (n refl)
    go (suc zero) n = unfold symbol_ok name_by in refl
    go (suc (suc class)) n = unfold symbol_ok name_by in refl

pub list_symbol : (name_at : ℕ → List ℕ) (code : ℕ) → code % 3 ≡ 0 → symbol_ok (name_by name_at (code % 3) (code / 3)) ≡ is_name (name_at (code / 3))
unfolding symbol_ok name_by
list_symbol name_at code e = rw e

-- ---- a constant by its code

pub constant_small : (code : ℕ) → leb code 1999999999999998 ≡ of_paper (constant_at code)
unfolding of_paper constant_at
constant_small code = go (eqb (code % 2) 0) refl (leb code 1999999999999998) refl
  where
    go : (b : Bool) → eqb (code % 2) 0 ≡ b → (q : Bool) → leb code 1999999999999998 ≡ q → q ≡ of_paper (cond b (pos (code / 2)) (negsuc (code / 2)))
    go true e true f = let h = leb-true code 1999999999999998 f in sym (lt-ltb (code / 2) (10 ^ 15) (omega arith))
    go true e false f =
        let h = leb-false code 1999999999999998 f in
        let z = eqb-true (code % 2) 0 e in
        sym (le-ltb (code / 2) (10 ^ 15) (omega arith))
    go false e true f =
        let h = leb-true code 1999999999999998 f in
        let z = eqb-false (code % 2) 0 e in
        sym (lt-ltb (suc (code / 2)) (10 ^ 15) (omega (arith, z)))
    go false e false f =
        let h = leb-false code 1999999999999998 f in
        sym (le-ltb (suc (code / 2)) (10 ^ 15) (omega arith))

-- ---- operands

-- past the table every kind has the counts that fit nothing
past : (k : ℕ) → SelectOr < k → ((kind_at 29).fewest ≡ (kind_at k).fewest) × ((kind_at 29).most ≡ (kind_at k).most)
unfolding kind_at
past k h =
    let g : length kinds ≤ k = (let l = kinds_long in omega arith) in
    (ap (λ (q : Kind). q.fewest) (sym (get_or-eq_default kinds _ g)), ap (λ (q : Kind). q.most) (sym (get_or-eq_default kinds _ g)))

number_is : (k : ℕ) → (k ≡ SelectOr → ⊥) → ((kind_at (kind_number k false)).fewest ≡ (kind_at k).fewest) × ((kind_at (kind_number k false)).most ≡ (kind_at k).most)
number_is k n = go (eqb k Select) refl (ltb Select k) refl
  where
    go :
        (b : Bool) → eqb k Select ≡ b → (d : Bool) → ltb Select k ≡ d
        → ((kind_at (cond b Select (cond d 29 k))).fewest ≡ (kind_at k).fewest) × ((kind_at (cond b Select (cond d 29 k))).most ≡ (kind_at k).most)
    go true e d f = let z = sym (eqb-true k Select e) in (ap (λ (j : ℕ). (kind_at j).fewest) z, ap (λ (j : ℕ). (kind_at j).most) z)
    go false e true f = let h = ltb-true Select k f in past k (omega (arith, n))
    go false e false f = (refl, refl)

module _ (k n : ℕ) where
  pub leaf_count : k < Neg → false ≡ operands_ok k n
  unfolding operands_ok
  leaf_count h = rw (lt-leb Neg k h)

  pub default_count : k ≡ SelectOr → arity_ok (kind_number Select true) n ≡ operands_ok k n
  unfolding operands_ok
  default_count e = rw e

  pub plain_count : Neg ≤ k → (k ≡ SelectOr → ⊥) → arity_ok (kind_number k false) n ≡ operands_ok k n
  unfolding operands_ok arity_ok
  plain_count h m =
      let c = number_is k m in
      rw (le-leb Neg k h) (ap₂ (λ (f g : ℕ). leb f n && leb n g) c.0 c.1)

-- a count of operands by the kind
pub ruleset right_counts = (leaf_count, default_count, plain_count)
