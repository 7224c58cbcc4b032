-- Groups and members done and still to come (specs, Groups), as loops over numbers have them. Assumes nothing.
use Prim.Native.Nat.{ℕ, zero, suc, ◌+◌}
use native.Mathlib.Omega.{arith}
use mathlib.Core.Path.{◌≡◌, sym, ◌∙◌, ap}
use mathlib.Core.Bool.{Bool, true, false}
use mathlib.Core.List.{List, [], ◌∷◌, ◌++◌, append_assoc, append-nil}
use lib.ListN.{length}
use lib.Dec.{eqb}
use Rattle.laws.specs.switches.Groups.{group_first, firsts_within, firsts_from, group_numbers, members_within, members_from, members_of}

taken : (b : Bool) (n : ℕ) (l r : List ℕ)
    → l ++ (elim b as (λ _. List ℕ) [ true ↦ n ∷ r | false ↦ r ]) ≡ (l ++ elim b as (λ _. List ℕ) [ true ↦ n ∷ [] | false ↦ [] ]) ++ r
taken true n l r = sym (append_assoc l (n ∷ []) r)
taken false n l r = sym (ap (λ (k : List ℕ). k ++ r) (append-nil l))

module _ (ws ps : List ℕ) where
  firsts_split : (j n : ℕ) → firsts_within ws ps j ++ firsts_from ws ps j n ≡ firsts_within ws ps (j + n)
  unfolding firsts_within firsts_from
  firsts_split j zero = let z : j ≡ j + 0 = omega arith in append-nil (firsts_within ws ps j) ∙ ap (firsts_within ws ps) z
  firsts_split j (suc n) =
      let z : suc j + n ≡ j + suc n = omega arith in
      taken (eqb (group_first ws ps j) j) j (firsts_within ws ps j) (firsts_from ws ps (suc j) n) ∙ firsts_split (suc j) n ∙ ap (firsts_within ws ps) z

  members_split : (i j n : ℕ) → members_within ws ps i j ++ members_from ws ps i j n ≡ members_within ws ps i (j + n)
  unfolding members_within members_from
  members_split i j zero = let z : j ≡ j + 0 = omega arith in append-nil (members_within ws ps i j) ∙ ap (members_within ws ps i) z
  members_split i j (suc n) =
      let z : suc j + n ≡ j + suc n = omega arith in
      taken (eqb (group_first ws ps j) i) j (members_within ws ps i j) (members_from ws ps i (suc j) n) ∙ members_split i (suc j) n ∙ ap (members_within ws ps i) z

  -- done, and to come
  pub firsts_remain : (j n : ℕ) → j + n ≡ length ps → firsts_within ws ps j ++ firsts_from ws ps j n ≡ group_numbers ws ps
  unfolding group_numbers
  firsts_remain j n e = firsts_split j n ∙ ap (firsts_within ws ps) e

  pub members_remain : (i j n : ℕ) → j + n ≡ length ps → members_within ws ps i j ++ members_from ws ps i j n ≡ members_of ws ps i
  unfolding members_of
  members_remain i j n e = members_split i j n ∙ ap (members_within ws ps i) e

  -- at the start all are to come
  pub firsts_all : firsts_from ws ps 0 (length ps) ≡ group_numbers ws ps
  unfolding firsts_within
  firsts_all = firsts_remain 0 (length ps) (omega arith)

  pub members_all : (i : ℕ) → members_from ws ps i 0 (length ps) ≡ members_of ws ps i
  unfolding members_within
  members_all i = members_remain i 0 (length ps) (omega arith)
