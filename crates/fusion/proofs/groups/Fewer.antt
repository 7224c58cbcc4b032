-- All groups together have no more members than there are places: each place is in one group at most. Assumes nothing.
use Prim.Native.Nat.{ℕ, zero, suc, ◌+◌, ◌≤◌}
use native.Mathlib.Omega.{arith}
use mathlib.Core.Path.{◌≡◌, refl, ap}
use mathlib.Core.Bool.{Bool, true, false}
use mathlib.Core.List.{List, [], ◌∷◌, ◌++◌, map}
use borrow.Author.Tests.{ne_eqb, leb-true, leb-false}
use lib.ListN.{length, length-append, length-map}
use lib.Dec.{eqb, leb}
use Rattle.laws.specs.switches.Groups.{member, group_first, firsts_within, members_within, members_of, member_places}
use Rattle.fusion.specs.place.Parts.{joined_groups}

abbrev one_if : Bool → ℕ
one_if true = 1
one_if false = 0

one_long : (b : Bool) (n : ℕ) → length {A = ℕ} (elim b as (λ _. List ℕ) [ true ↦ n ∷ [] | false ↦ [] ]) ≡ one_if b
one_long true n = refl
one_long false n = refl

-- how often a number stands among some
abbrev hits : ℕ → List ℕ → ℕ
hits x [] = 0
hits x (i ∷ l) = one_if (eqb x i) + hits x l

hits_both : (x : ℕ) (a b : List ℕ) → hits x (a ++ b) ≡ hits x a + hits x b
hits_both x [] b = omega arith
hits_both x (i ∷ a) b = (let e = hits_both x a b in omega arith)

one_at_most : (c : Bool) → one_if c ≤ 1
one_at_most true = omega arith
one_at_most false = omega arith

hits_one : (x : ℕ) (b : Bool) (k : ℕ) → hits x (elim b as (λ _. List ℕ) [ true ↦ k ∷ [] | false ↦ [] ]) ≤ 1
hits_one x true k = (let h = one_at_most (eqb x k) in omega arith)
hits_one x false k = omega arith

hits_none : (x : ℕ) (b : Bool) (k : ℕ) → (x ≡ k → ⊥) → hits x (elim b as (λ _. List ℕ) [ true ↦ k ∷ [] | false ↦ [] ]) ≡ 0
hits_none x true k ne = (let e = ap one_if (ne_eqb x k ne) in omega arith)
hits_none x false k ne = refl

module _ (ws ps : List ℕ) where
  abbrev opens : ℕ → Bool
  opens k = eqb (group_first ws ps k) k

  abbrev openers : ℕ → List ℕ
  openers k = firsts_within ws ps k

  -- a number is not among those that open a group before it
  not_yet : (x k : ℕ) → k ≤ x → hits x (openers k) ≡ 0
  unfolding firsts_within
  not_yet x zero h = refl
  not_yet x (suc k) h =
      let more : List ℕ = elim (opens k) [ true ↦ k ∷ [] | false ↦ [] ] in
      omega (arith, hits_both x (openers k) more, not_yet x k (omega arith), hits_none x (opens k) k (λ e. omega arith))

  -- and once at most among all
  once : (x k : ℕ) → hits x (openers k) ≤ 1
  unfolding firsts_within
  once x zero = omega arith
  once x (suc k) = go (leb k x) refl (once x k)
    where
      more : List ℕ
      more = elim (opens k) [ true ↦ k ∷ [] | false ↦ [] ]

      go : (b : Bool) → leb k x ≡ b → hits x (openers k) ≤ 1 → hits x (openers k ++ more) ≤ 1
      go true e f = omega (arith, hits_both x (openers k) more, not_yet x k (leb-true k x e), hits_one x (opens k) k)
      go false e f =
          let l = leb-false k x e in
          omega (arith, hits_both x (openers k) more, f, hits_none x (opens k) k (λ d. omega arith))

  -- how many of the first n are in the groups that some open
  total : List ℕ → ℕ → ℕ
  total [] n = 0
  total (i ∷ l) n = length (members_within ws ps i n) + total l n

  no_members : (l : List ℕ) → total l 0 ≡ 0
  unfolding total members_within
  no_members [] = refl
  no_members (i ∷ l) = (let e = no_members l in omega arith)

  one_more : (l : List ℕ) (n : ℕ) → total l (suc n) ≡ total l n + hits (group_first ws ps n) l
  unfolding total members_within
  one_more [] n = refl
  one_more (i ∷ l) n =
      let b = eqb (group_first ws ps n) i in
      let more : List ℕ = elim b [ true ↦ n ∷ [] | false ↦ [] ] in
      omega (arith, one_more l n, length-append (members_within ws ps i n) more, one_long b n)

  total_few : (k n : ℕ) → total (openers k) n ≤ n
  total_few k zero = (let e = no_members (openers k) in omega arith)
  total_few k (suc n) = omega (arith, one_more (openers k) n, once (group_first ws ps n) k, total_few k n)

  total_is : (l : List ℕ) → length (joined_groups (map (member_places ws ps) l)) ≡ total l (length ps)
  unfolding total joined_groups member_places members_of
  total_is [] = refl
  total_is (i ∷ l) =
      omega (
        arith,
        length-append (map (member ps) (members_within ws ps i (length ps))) (joined_groups (map (member_places ws ps) l)),
        length-map (members_within ws ps i (length ps)) (member ps),
        total_is l,
      )

  pub members_fewer : (k : ℕ) → length (joined_groups (map (member_places ws ps) (firsts_within ws ps k))) ≤ length ps
  members_fewer k = omega (arith, total_is (openers k), total_few k (length ps))

  -- as many groups as numbers at most
  pub groups_fewer : (k : ℕ) → length (firsts_within ws ps k) ≤ k
  unfolding firsts_within
  groups_fewer zero = omega arith
  groups_fewer (suc k) =
      omega (arith, length-append (openers k) (elim (opens k) as (λ _. List ℕ) [ true ↦ k ∷ [] | false ↦ [] ]), one_long (opens k) k, one_at_most (opens k), groups_fewer k)
