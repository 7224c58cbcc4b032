-- A number sought among some, and the group of a member by where groups end: as the first that a search finds. Assumes nothing.
use Prim.Native.Nat.{ℕ, suc, ◌+◌, ◌≤◌, ◌<◌}
use native.Mathlib.Omega.{arith}
use mathlib.Core.Path.{◌≡◌, refl, sym, ◌∙◌, ap, subst}
use mathlib.Core.Bool.{Bool, true, false}
use mathlib.Core.List.{List, [], ◌∷◌}
use borrow.Author.Tests.{eq-eqb, ne_eqb, lt-ltb, le-ltb}
use lib.Dec.{eqb, ltb}
use lib.ListN.{length}
use Rattle.std.specs.List.{HoldsAt, AllWithin}
use Rattle.std.specs.Prelude.{Option, Some, None, MatchOption, unwrap_or}
use Rattle.std.proofs.lemmas.Iterator.{index_from_first}
use Rattle.fusion.specs.place.Reads.{place_of, group_of}

-- what `position` answers, where Yes is told of the item that it stops at
abbrev pub First : (ℕ → Type 0) → (ℕ → Type 0) → List ℕ → Option ℕ → Type 0
First Yes No l r = MatchOption r (AllWithin No l 0 (length l)) (λ i. (i < length l) × HoldsAt Yes l i × AllWithin No l 0 i)

-- ---- a number among some

place_by : (n i m : ℕ) (l : List ℕ) (b : Bool) → eqb m n ≡ b → place_of n i (m ∷ l) ≡ elim b as (λ _. ℕ) [ true ↦ i | false ↦ place_of n (suc i) l ]
unfolding place_of
place_by n i m l b e = ap (λ (c : Bool). elim c as (λ _. ℕ) [ true ↦ i | false ↦ place_of n (suc i) l ]) e

place_none : (n i : ℕ) → place_of n i [] ≡ i
unfolding place_of
place_none n i = refl

place_later : (n i : ℕ) (l : List ℕ) → place_of n (suc i) l ≡ suc (place_of n i l)
place_later n i [] = place_none n (suc i) ∙ ap suc (sym (place_none n i))
place_later n i (m ∷ l) = go (eqb m n) refl (place_later n (suc i) l)
  where
    go : (b : Bool) → eqb m n ≡ b → place_of n (suc (suc i)) l ≡ suc (place_of n (suc i) l) → place_of n (suc i) (m ∷ l) ≡ suc (place_of n i (m ∷ l))
    go true q rest = place_by n (suc i) m l true q ∙ ap suc (sym (place_by n i m l true q))
    go false q rest = place_by n (suc i) m l false q ∙ (rest ∙ ap suc (sym (place_by n i m l false q)))

pub place_first : (n : ℕ) (l : List ℕ) (r : Option ℕ) → First (λ m. m ≡ n) (λ m. m ≡ n → ⊥) l r → place_of n 0 l ≡ unwrap_or r (length l)
place_first n l r h =
    index_from_first (place_of n 0) (λ m. m ≡ n) (λ m. m ≡ n → ⊥) (place_none n 0)
    (λ m xs e. place_by n 0 m xs true (eq-eqb m n e))
    (λ m xs ne. place_by n 0 m xs false (ne_eqb m n ne) ∙ (place_later n 0 xs ∙ omega arith)) l r h

module _ (n : ℕ) (l : List ℕ) (r : Option ℕ) (h : First (λ m. m ≡ n) (λ m. m ≡ n → ⊥) l r) where
  pub place_past : r ≡ None → length l ≤ place_of n 0 l
  place_past e = let p : place_of n 0 l ≡ length l = place_first n l r h ∙ ap (λ (o : Option ℕ). unwrap_or o (length l)) e in omega (arith, p)

  pub place_some : (p : ℕ) → r ≡ Some p → (place_of n 0 l ≡ p) × (place_of n 0 l < length l)
  place_some p e =
      let k = subst (λ (o : Option ℕ). First (λ m. m ≡ n) (λ m. m ≡ n → ⊥) l o) e h in
      let q : place_of n 0 l ≡ p = place_first n l r h ∙ ap (λ (o : Option ℕ). unwrap_or o (length l)) e in
      (q, omega (arith, q, k.0))

-- ---- the group of a member

group_by : (i g e : ℕ) (l : List ℕ) (b : Bool) → ltb i e ≡ b → group_of i g (e ∷ l) ≡ elim b as (λ _. ℕ) [ true ↦ g | false ↦ group_of i (suc g) l ]
unfolding group_of
group_by i g e l b q = ap (λ (c : Bool). elim c as (λ _. ℕ) [ true ↦ g | false ↦ group_of i (suc g) l ]) q

group_none : (i g : ℕ) → group_of i g [] ≡ g
unfolding group_of
group_none i g = refl

group_later : (i g : ℕ) (l : List ℕ) → group_of i (suc g) l ≡ suc (group_of i g l)
group_later i g [] = group_none i (suc g) ∙ ap suc (sym (group_none i g))
group_later i g (e ∷ l) = go (ltb i e) refl (group_later i (suc g) l)
  where
    go : (b : Bool) → ltb i e ≡ b → group_of i (suc (suc g)) l ≡ suc (group_of i (suc g) l) → group_of i (suc g) (e ∷ l) ≡ suc (group_of i g (e ∷ l))
    go true q rest = group_by i (suc g) e l true q ∙ ap suc (sym (group_by i g e l true q))
    go false q rest = group_by i (suc g) e l false q ∙ (rest ∙ ap suc (sym (group_by i g e l false q)))

pub group_first : (i : ℕ) (l : List ℕ) (r : Option ℕ) → First (λ e. i < e) (λ e. e ≤ i) l r → group_of i 0 l ≡ unwrap_or r (length l)
group_first i l r h =
    index_from_first (group_of i 0) (λ e. i < e) (λ e. e ≤ i) (group_none i 0)
    (λ e xs q. group_by i 0 e xs true (lt-ltb i e q))
    (λ e xs q. group_by i 0 e xs false (le-ltb i e q) ∙ (group_later i 0 xs ∙ omega arith)) l r h

-- a group is one of those there are, or the one past them
group_few : (i g : ℕ) (ends : List ℕ) → group_of i g ends ≤ g + length ends
group_few i g [] = let z = group_none i g in omega arith
group_few i g (e ∷ l) = go (group_few i (suc g) l) (ltb i e) refl
  where
    go : group_of i (suc g) l ≤ suc g + length l → (b : Bool) → ltb i e ≡ b → group_of i g (e ∷ l) ≤ g + suc (length l)
    go rest true q = let z = group_by i g e l true q in omega arith
    go rest false q = let z = group_by i g e l false q in omega arith

pub group_small : (i : ℕ) (ends : List ℕ) → group_of i 0 ends ≤ length ends
group_small i ends = let z = group_few i 0 ends in omega arith
