-- Which position a word names: that of a let where it is its `__xN`, that of a match where it is one of its `__mN`, and none where it is another's (01, "Order").
-- Assumes nothing.
use Prim.Native.Nat.{ℕ, zero, suc, ◌+◌, ◌-◌, ◌≤◌, ◌<◌}
use native.Mathlib.Omega.{arith}
use mathlib.Core.Path.{◌≡◌, refl, sym, ◌∙◌, ap, ap₂}
use mathlib.Core.Logic.{◌⊎◌, inl, inr}
use mathlib.Core.Bool.{Bool, true, false, ◌&&◌}
use mathlib.Core.List.{List, [], ◌∷◌, ◌++◌}
use borrow.Author.Tests.{eqb-true, eqb-false, eq-eqb, ne_eqb, ltb-true, ltb-false, lt-ltb, le-ltb}
use lib.Dec.{eqb, ltb}
use lib.ListN.{length, length-append}
use Rattle.spec_tree.specs.Tree.{Name, input, xname, mname, eq_name}
use Rattle.spec_cse.specs.Answer.{elem}
use Rattle.spec_cse.specs.Scope.{Switch, members, member_names}
use Rattle.fusion.specs.Settled.{Numbered}
use Rattle.fusion.specs.Words.{numbers_from, all_numbers}
use Rattle.fusion.proofs.Members.{numbers_count}
use Rattle.fusion.specs.place.Parts.{ends_from}
use Rattle.fusion.specs.place.Reads.{place_of, group_of}

-- ---- where a number stands among some, and which group it is in

pub place_least : (i off : ℕ) (l : List ℕ) → off ≤ place_of i off l
unfolding place_of
place_least i off [] = omega arith
place_least i off (m ∷ l) = go (eqb m i) (place_least i (suc off) l)
  where
    go : (b : Bool) → suc off ≤ place_of i (suc off) l → off ≤ elim b as (λ _. ℕ) [ true ↦ off | false ↦ place_of i (suc off) l ]
    go true h = omega arith
    go false h = omega arith

group_least : (i g : ℕ) (l : List ℕ) → g ≤ group_of i g l
unfolding group_of
group_least i g [] = omega arith
group_least i g (e ∷ l) = go (ltb i e) (group_least i (suc g) l)
  where
    go : (b : Bool) → suc g ≤ group_of i (suc g) l → g ≤ elim b as (λ _. ℕ) [ true ↦ g | false ↦ group_of i (suc g) l ]
    go true h = omega arith
    go false h = omega arith

place_here : (i off : ℕ) (m : ℕ) (l : List ℕ) → m ≡ i → place_of i off (m ∷ l) ≡ off
unfolding place_of
place_here i off m l e = ap (λ (b : Bool). elim b as (λ _. ℕ) [ true ↦ off | false ↦ place_of i (suc off) l ]) (eq-eqb m i e)

place_past : (i off : ℕ) (m : ℕ) (l : List ℕ) → (m ≡ i → ⊥) → place_of i off (m ∷ l) ≡ place_of i (suc off) l
unfolding place_of
place_past i off m l e = ap (λ (b : Bool). elim b as (λ _. ℕ) [ true ↦ off | false ↦ place_of i (suc off) l ]) (ne_eqb m i e)

group_here : (i g e : ℕ) (l : List ℕ) → i < e → group_of i g (e ∷ l) ≡ g
unfolding group_of
group_here i g e l h = ap (λ (b : Bool). elim b as (λ _. ℕ) [ true ↦ g | false ↦ group_of i (suc g) l ]) (lt-ltb i e h)

group_past : (i g e : ℕ) (l : List ℕ) → e ≤ i → group_of i g (e ∷ l) ≡ group_of i (suc g) l
unfolding group_of
group_past i g e l h = ap (λ (b : Bool). elim b as (λ _. ℕ) [ true ↦ g | false ↦ group_of i (suc g) l ]) (le-ltb i e h)

from_step : (s m : ℕ) (rest : List ℕ) → numbers_from s (suc m) ++ rest ≡ s ∷ (numbers_from (suc s) m ++ rest)
unfolding numbers_from
from_step s m rest = refl

from_none : (s : ℕ) (rest : List ℕ) → numbers_from s 0 ++ rest ≡ rest
unfolding numbers_from
from_none s rest = refl

place_in : (s m i off : ℕ) (rest : List ℕ) → s ≤ i → i < s + m → place_of i off (numbers_from s m ++ rest) ≡ off + (i - s)
place_in s zero i off rest h g = absurd (omega arith)
place_in s (suc m) i off rest h g = ap (place_of i off) (from_step s m rest) ∙ go (eqb s i) refl (λ k. place_in (suc s) m i (suc off) rest k (omega arith))
  where
    go : (b : Bool) → eqb s i ≡ b → (suc s ≤ i → place_of i (suc off) (numbers_from (suc s) m ++ rest) ≡ suc off + (i - suc s))
        → place_of i off (s ∷ (numbers_from (suc s) m ++ rest)) ≡ off + (i - s)
    go true e f = place_here i off s (numbers_from (suc s) m ++ rest) (eqb-true s i e) ∙ (let z = eqb-true s i e in omega arith)
    go false e f =
        let n = eqb-false s i e in
        place_past i off s (numbers_from (suc s) m ++ rest) n ∙ (let k : suc s ≤ i = omega arith in f k ∙ omega arith)

abbrev Apart : ℕ → ℕ → ℕ → Type 0
Apart s m i = (i < s) ⊎ (s + m ≤ i)

not_first : (s m i : ℕ) → Apart s (suc m) i → s ≡ i → ⊥
not_first s m i (inl h) e = omega arith
not_first s m i (inr h) e = omega arith

apart_next : (s m i : ℕ) → Apart s (suc m) i → Apart (suc s) m i
apart_next s m i (inl h) = inl (omega arith)
apart_next s m i (inr h) = inr (omega arith)

place_out : (s m i off : ℕ) (rest : List ℕ) → Apart s m i → place_of i off (numbers_from s m ++ rest) ≡ place_of i (off + m) rest
place_out s zero i off rest a = let z : off ≡ off + 0 = omega arith in ap (place_of i off) (from_none s rest) ∙ ap (λ (o : ℕ). place_of i o rest) z
place_out s (suc m) i off rest a =
    let z : suc off + m ≡ off + suc m = omega arith in
    ap (place_of i off) (from_step s m rest)
    ∙ (place_past i off s (numbers_from (suc s) m ++ rest) (not_first s m i a)
    ∙ (place_out (suc s) m i (suc off) rest (apart_next s m i a) ∙ ap (λ (o : ℕ). place_of i o rest) z))

near : (s m i : ℕ) → ((s ≤ i) × (i < s + m)) ⊎ Apart s m i
near s m i = go (ltb i s) (ltb i (s + m)) refl refl
  where
    go : (a b : Bool) → ltb i s ≡ a → ltb i (s + m) ≡ b → ((s ≤ i) × (i < s + m)) ⊎ Apart s m i
    go true b e f = inr (inl (ltb-true i s e))
    go false true e f = inl (ltb-false i s e, ltb-true i (s + m) f)
    go false false e f = inr (inr (ltb-false i (s + m) f))

-- ---- the names of a group's members

other_name : (i : ℕ) (n : Name) (l : List Name) → eq_name n (mname i) ≡ false → elem (mname i) (n ∷ l) ≡ elem (mname i) l
unfolding elem
other_name i n l e = ap (λ (b : Bool). elim b as (λ _. Bool) [ true ↦ true | false ↦ elem (mname i) l ]) e

this_name : (i : ℕ) (n : Name) (l : List Name) → eq_name n (mname i) ≡ true → elem (mname i) (n ∷ l) ≡ true
unfolding elem
this_name i n l e = ap (λ (b : Bool). elim b as (λ _. Bool) [ true ↦ true | false ↦ elem (mname i) l ]) e

m_test : (s i : ℕ) → eq_name (mname s) (mname i) ≡ eqb s i
unfolding eq_name
m_test s i = refl

pub name_in : (s i : ℕ) (l : List Switch) → s ≤ i → i < s + length l → elem (mname i) (member_names s l) ≡ true
unfolding member_names
name_in s i [] h g = absurd (omega arith)
name_in s i (x ∷ l) h g = go (eqb s i) refl (λ k. name_in (suc s) i l k (omega arith))
  where
    go : (b : Bool) → eqb s i ≡ b → (suc s ≤ i → elem (mname i) (member_names (suc s) l) ≡ true) → elem (mname i) (mname s ∷ member_names (suc s) l) ≡ true
    go true e f = this_name i (mname s) (member_names (suc s) l) (m_test s i ∙ e)
    go false e f = let n = eqb-false s i e in other_name i (mname s) (member_names (suc s) l) (m_test s i ∙ e) ∙ f (omega arith)

pub name_out : (s i : ℕ) (l : List Switch) → Apart s (length l) i → elem (mname i) (member_names s l) ≡ false
unfolding member_names
name_out s i [] a = (unfold elem in refl)
name_out s i (x ∷ l) a =
    other_name i (mname s) (member_names (suc s) l) (m_test s i ∙ ne_eqb s i (not_first s (length l) i a)) ∙ name_out (suc s) i l (apart_next s (length l) i a)

-- no name of another kind is among them
pub not_member_x : (s i : ℕ) (l : List Switch) → elem (xname i) (member_names s l) ≡ false
unfolding member_names elem eq_name
not_member_x s i [] = refl
not_member_x s i (x ∷ l) = not_member_x (suc s) i l

pub not_member_input : (s : ℕ) (c : List ℕ) (l : List Switch) → elem (input c) (member_names s l) ≡ false
unfolding member_names elem eq_name
not_member_input s c [] = refl
not_member_input s c (x ∷ l) = not_member_input (suc s) c l

-- ---- groups one after another

-- numbers ascend from `low` on
abbrev pub Ascending : ℕ → List Numbered → Type 0
Ascending low [] = Unit {0}
Ascending low (g ∷ l) = (low ≤ g.start) × Ascending (g.start + length (members g.group)) l

-- each group has as many places as members
abbrev pub Counted : List Numbered → List (List ℕ) → Type 0
Counted [] [] = Unit {0}
Counted [] (ps ∷ pss) = ⊥
Counted (g ∷ l) [] = ⊥
Counted (g ∷ l) (ps ∷ pss) = (length ps ≡ length (members g.group)) × Counted l pss

abbrev pub group_names : List Numbered → ℕ → List Name
group_names [] j = []
group_names (g ∷ l) zero = member_names g.start (members g.group)
group_names (g ∷ l) (suc j) = group_names l j

-- a smaller number is none of theirs
below_all : (low i : ℕ) (ls : List Numbered) → Ascending low ls → i < low → (j : ℕ) → elem (mname i) (group_names ls j) ≡ false
below_all low i [] a h j = (unfold elem in refl)
below_all low i (g ∷ l) a h zero = let x = a.0 in name_out g.start i (members g.group) (inl (omega arith))
below_all low i (g ∷ l) a h (suc j) = let x = a.0 in below_all (g.start + length (members g.group)) i l a.1 (omega arith) j

first_numbers : (g : Numbered) (l : List Numbered) → all_numbers (g ∷ l) ≡ numbers_from g.start (length (members g.group)) ++ all_numbers l
unfolding all_numbers
first_numbers g l = refl

first_end : (off : ℕ) (ps : List ℕ) (pss : List (List ℕ)) → ends_from off (ps ∷ pss) ≡ (off + length ps) ∷ ends_from (off + length ps) pss
unfolding ends_from
first_end off ps pss = refl

-- the group whose member has a number is where that is found
module _ (i : ℕ) where
  abbrev At : ℕ → ℕ → List ℕ → List ℕ → ℕ → Bool
  At off g0 numbers ends g = ltb (place_of i off numbers) (off + length numbers) && eqb (group_of (place_of i off numbers) g0 ends) g

  and_no : (b : Bool) → (b && false) ≡ false
  and_no true = refl
  and_no false = refl

  pub found :
      (low off g0 : ℕ) (ls : List Numbered) (pss : List (List ℕ)) → Ascending low ls → Counted ls pss → (j : ℕ) → j < length ls
      → At off g0 (all_numbers ls) (ends_from off pss) (g0 + j) ≡ elem (mname i) (group_names ls j)
  found low off g0 [] pss a c j h = absurd (omega arith)
  found low off g0 (g ∷ l) [] a c j h = absurd c
  found low off g0 (g ∷ l) (ps ∷ pss) a c j h =
      go j h (λ j h. found (g.start + length (members g.group)) (off + length (members g.group)) (suc g0) l pss a.1 c.1 j h)
      (near g.start (length (members g.group)) i)
    where
      numbers_are : all_numbers (g ∷ l) ≡ numbers_from g.start (length (members g.group)) ++ all_numbers l
      numbers_are = first_numbers g l

      ends_are : ends_from off (ps ∷ pss) ≡ (off + length (members g.group)) ∷ ends_from (off + length (members g.group)) pss
      ends_are = first_end off ps pss ∙ ap (λ (x : ℕ). (off + x) ∷ ends_from (off + x) pss) c.0

      long : length (all_numbers (g ∷ l)) ≡ length (members g.group) + length (all_numbers l)
      long =
          ap length numbers_are
          ∙ (length-append (numbers_from g.start (length (members g.group))) (all_numbers l)
          ∙ ap (λ (x : ℕ). x + length (all_numbers l)) (numbers_count g.start (length (members g.group))))

      same : (p q e e2 : ℕ) (b : Bool) → p ≡ q → (ltb p e && eqb (group_of p g0 (ends_from off (ps ∷ pss))) e2) ≡ (ltb q e && eqb (group_of q g0 ((off + length (members g.group)) ∷ ends_from (off + length (members g.group)) pss)) e2)
      same p q e e2 b z = ap₂ (λ (x : ℕ) (y : List ℕ). ltb x e && eqb (group_of x g0 y) e2) z ends_are

      inside : (j : ℕ) → g.start ≤ i → i < g.start + length (members g.group) → At off g0 (all_numbers (g ∷ l)) (ends_from off (ps ∷ pss)) (g0 + j) ≡ eqb g0 (g0 + j)
      inside j b d =
          let k = length (members g.group) in
          let p = off + (i - g.start) in
          same (place_of i off (all_numbers (g ∷ l))) p (off + length (all_numbers (g ∷ l))) (g0 + j) true (ap (place_of i off) numbers_are ∙ place_in g.start k i off (all_numbers l) b d)
          ∙ ap₂ (λ (x : Bool) (y : ℕ). x && eqb y (g0 + j)) (lt-ltb p (off + length (all_numbers (g ∷ l))) (omega (arith, long, b, d)))
          (group_here p g0 (off + k) (ends_from (off + k) pss) (omega (arith, b, d)))

      outside : (j : ℕ) → Apart g.start (length (members g.group)) i
          → At off g0 (all_numbers (g ∷ l)) (ends_from off (ps ∷ pss)) (g0 + j)
          ≡ At (off + length (members g.group)) (suc g0) (all_numbers l) (ends_from (off + length (members g.group)) pss) (g0 + j)
      outside j a =
          let k = length (members g.group) in
          let p = place_of i (off + k) (all_numbers l) in
          let z : off + length (all_numbers (g ∷ l)) ≡ off + k + length (all_numbers l) = omega (arith, long) in
          same (place_of i off (all_numbers (g ∷ l))) p (off + length (all_numbers (g ∷ l))) (g0 + j) true (ap (place_of i off) numbers_are ∙ place_out g.start k i off (all_numbers l) a)
          ∙ ap₂ (λ (x y : ℕ). ltb p x && eqb y (g0 + j)) z (group_past p g0 (off + k) (ends_from (off + k) pss) (place_least i (off + k) (all_numbers l)))

      go : (j : ℕ) → j < length (g ∷ l)
          → ((j : ℕ) → j < length l
          → At (off + length (members g.group)) (suc g0) (all_numbers l) (ends_from (off + length (members g.group)) pss) (suc g0 + j) ≡ elem (mname i) (group_names l j))
          → ((g.start ≤ i) × (i < g.start + length (members g.group))) ⊎ Apart g.start (length (members g.group)) i
          → At off g0 (all_numbers (g ∷ l)) (ends_from off (ps ∷ pss)) (g0 + j) ≡ elem (mname i) (group_names (g ∷ l) j)
      go zero h f (inl n) = inside 0 n.0 n.1 ∙ (eq-eqb g0 (g0 + 0) (omega arith) ∙ sym (name_in g.start i (members g.group) n.0 n.1))
      go (suc j) h f (inl n) =
          inside (suc j) n.0 n.1
          ∙ (ne_eqb g0 (g0 + suc j) (λ e. omega arith) ∙ sym (below_all (g.start + length (members g.group)) i l a.1 n.1 j))
      go zero h f (inr n) =
          let k = length (members g.group) in
          let p = place_of i (off + k) (all_numbers l) in
          outside 0 n
          ∙ (ap (λ (b : Bool). ltb p (off + k + length (all_numbers l)) && b)
          (ne_eqb (group_of p (suc g0) (ends_from (off + k) pss)) (g0 + 0) (λ e. let z = group_least p (suc g0) (ends_from (off + k) pss) in omega arith))
          ∙ (and_no (ltb p (off + k + length (all_numbers l))) ∙ sym (name_out g.start i (members g.group) n)))
      go (suc j) h f (inr n) =
          let k = length (members g.group) in
          let z : g0 + suc j ≡ suc g0 + j = omega arith in
          outside (suc j) n
          ∙ (ap (λ (x : ℕ). At (off + k) (suc g0) (all_numbers l) (ends_from (off + k) pss) x) z
          ∙ f j (omega arith))
