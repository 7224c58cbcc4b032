-- The last place with a tree is one for all places with that tree. Assumes nothing.
use Prim.Native.Nat.{ℕ, zero, suc, ◌≤◌, ◌<◌}
use native.Mathlib.Omega.{arith}
use mathlib.Core.Path.{◌≡◌, refl, sym, ap, subst}
use mathlib.Core.Bool.{Bool, true, false}
use mathlib.Core.List.{List}
use lib.ListN.{length}
use lib.Dec.{T}
use Rattle.spec_tree.specs.Tree.{Tree, eq_tree}
use Rattle.spec_tree.proofs.TreeLaws.{eq_tree_sound, eq_tree_refl}
use Rattle.laws.specs.positions.Places.{numbered_at}
use Rattle.rounds.specs.value_numbers.Classes.{last_place, last_at}

record Last (ws : List ℕ) (t : Tree) (q n r : ℕ) : Type 0 where
  low : q ≤ r
  high : r < n
  is : numbered_at ws r ≡ t

module _ (ws : List ℕ) where
  last_is : (t : Tree) (q n : ℕ) → q < n → numbered_at ws q ≡ t → Last ws t q n (last_place ws t n)
  unfolding last_place
  last_is t q zero h e = absurd (omega arith)
  last_is t q (suc n) h e = go (λ l. last_is t q n l e) (eq_tree (numbered_at ws n) t) refl
    where
      go :
          (q < n → Last ws t q n (last_place ws t n)) → (b : Bool) → eq_tree (numbered_at ws n) t ≡ b
          → Last ws t q (suc n) (elim b as (λ _. ℕ) [ true ↦ n | false ↦ last_place ws t n ])
      go fewer true p = record { low = omega arith; high = omega arith; is = eq_tree_sound (numbered_at ws n) t (subst T (sym p) tt) }
      go fewer false p =
          let ne : q ≡ n → ⊥ = λ z. subst T p (subst (λ (u : Tree). T (eq_tree u t)) (sym (rw z at e)) (eq_tree_refl t)) in
          let k = fewer (omega (arith, ne)) in
          record { low = k.low; high = omega (arith, k.high); is = k.is }

  last_last : (q : ℕ) → q < length ws → Last ws (numbered_at ws q) q (length ws) (last_at ws q)
  unfolding last_at
  last_last q h = last_is (numbered_at ws q) q (length ws) h refl

  pub last_low : (q : ℕ) → q < length ws → q ≤ last_at ws q
  last_low q h = (last_last q h).low

  pub last_high : (q : ℕ) → q < length ws → last_at ws q < length ws
  last_high q h = (last_last q h).high

  pub last_tree : (q : ℕ) → q < length ws → numbered_at ws (last_at ws q) ≡ numbered_at ws q
  last_tree q h = (last_last q h).is

  pub last_same : (q r : ℕ) → numbered_at ws q ≡ numbered_at ws r → last_at ws q ≡ last_at ws r
  unfolding last_at
  last_same q r e = ap (λ (t : Tree). last_place ws t (length ws)) e

  pub last_stands : (q : ℕ) → q < length ws → last_at ws (last_at ws q) ≡ last_at ws q
  last_stands q h = last_same (last_at ws q) q (last_tree q h)
