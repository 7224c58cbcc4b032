-- The best candidate as a place among words (01, "Extraction"), and uses and divisors by places: places are met in reading order, the trees compared have numbers for
-- names, and the texts are those under the names that `name-at` gives. Assumes nothing.
use Prim.Native.Nat.{ℕ, zero, suc, ◌+◌, ◌-◌, ◌*◌}
use Rattle.std.specs.Prelude.{Bool, ◌&&◌, ◌||◌, length}
use Rattle.std.proofs.Math.Bool.{true, false, not}
use Rattle.std.proofs.Math.Option.{Option, none, some}
use mathlib.Core.List.{List, [], ◌∷◌, ◌++◌}
use Rattle.std.proofs.Math.ListN.{get_or}
use Rattle.std.proofs.Math.Dec.{eqb, leb, ltb}
use Rattle.spec_tree.specs.Tree.{Tree, Op, nil, eq_tree}
use Rattle.spec_tree.specs.Kinds.{Div, is_switch}
use Rattle.spec_tree.specs.Facts.{size, cost, depth, has_symbol, uses, uses_outside}
use Rattle.spec_tree.specs.Tokens.{read, trees_at, numbered, kind_of, takes}
use Rattle.spec_tree.specs.text.Text.{display, before}

module _ (ws : List ℕ) where
  -- the tree at a place, its symbols named by their numbers
  unfoldable pub numbered_at : ℕ → Tree
  unfolding trees_at
  numbered_at i = get_or (trees_at numbered ws) i (Op 0 nil)

  unfoldable pub uses_at : ℕ → ℕ
  unfolding uses read numbered_at
  uses_at i = uses (read numbered ws) (numbered_at i)

  unfoldable pub savings_at : ℕ → ℕ
  unfolding uses_at cost numbered_at
  savings_at i = (uses_at i - 1) * cost (numbered_at i)

  unfoldable pub candidate_at : Bool → ℕ → Bool
  unfolding cost has_symbol uses_at uses_outside read numbered_at
  candidate_at scoped i =
      leb 1 (cost (numbered_at i)) && (has_symbol (numbered_at i) && (leb 2 (uses_at i) && leb 1 (uses_outside scoped (read numbered ws) (numbered_at i))))

  -- ---- uses counted by places (01, "Uses")

  -- Whether place j is in an arm of the switch at place p: past the tree after p, which is the switch's first operand, and before its end.
  unfoldable pub in_arm_of : ℕ → ℕ → Bool
  unfolding size numbered_at
  in_arm_of p j = is_switch (kind_of (get_or ws p 0)) && (leb (suc p + size (numbered_at (suc p))) j && ltb j (p + size (numbered_at p)))

  -- in an arm of a switch at one of the first n places
  unfoldable pub in_arm : ℕ → ℕ → Bool
  unfolding in_arm_of
  in_arm zero j = false
  in_arm (suc n) j = in_arm_of n j || in_arm n j

  -- outside arms, which every place is in the flat form
  unfoldable pub outside_at : Bool → ℕ → Bool
  unfolding in_arm
  outside_at false j = true
  outside_at true j = not (in_arm (length ws) j)

  -- how many of the first n places that pass have a tree equal to the one at i
  unfoldable pub equal_places : (ℕ → Bool) → ℕ → ℕ → ℕ
  unfolding eq_tree numbered_at
  equal_places test i zero = 0
  equal_places test i (suc n) =
      elim (test n && eq_tree (numbered_at n) (numbered_at i)) [ true ↦ suc (equal_places test i n) | false ↦ equal_places test i n ]

  -- ---- divisors by places (01, "Reciprocals")

  unfoldable pub divides_at : ℕ → Bool
  unfolding takes
  divides_at p = eqb (kind_of (get_or ws p 0)) Div && leb 2 (takes (get_or ws p 0))

  -- the second operand of the node at p stands past the first, which is the tree after p
  unfoldable pub second_at : ℕ → ℕ
  unfolding size numbered_at
  second_at p = suc p + size (numbered_at (suc p))

  -- where the divisors stand of those divisions among the first n places that pass, in order
  unfoldable pub divisor_places : (ℕ → Bool) → ℕ → List ℕ
  unfolding divides_at second_at
  divisor_places test zero = []
  divisor_places test (suc n) = divisor_places test n ++ elim (test n && divides_at n) as (λ _. List ℕ) [ true ↦ second_at n ∷ [] | false ↦ [] ]

  -- whether a place among some has a tree equal to the one at q, and how many have
  unfoldable pub among_places : ℕ → List ℕ → Bool
  unfolding eq_tree numbered_at
  among_places q [] = false
  among_places q (r ∷ l) = elim (eq_tree (numbered_at r) (numbered_at q)) [ true ↦ true | false ↦ among_places q l ]

  unfoldable pub count_places : ℕ → List ℕ → ℕ
  unfolding eq_tree numbered_at
  count_places q [] = 0
  count_places q (r ∷ l) = elim (eq_tree (numbered_at r) (numbered_at q)) [ true ↦ suc (count_places q l) | false ↦ count_places q l ]

  -- each once, where its tree stands first; `seen` holds those met before
  unfoldable pub distinct_places : List ℕ → List ℕ → List ℕ
  unfolding among_places
  distinct_places seen [] = []
  distinct_places seen (q ∷ l) = elim (among_places q seen) [ true ↦ distinct_places seen l | false ↦ q ∷ distinct_places (q ∷ seen) l ]

  -- those that are twice among all divisors, and once among those outside arms
  unfoldable pub shared_places : List ℕ → List ℕ → List ℕ → List ℕ
  unfolding count_places
  shared_places all out [] = []
  shared_places all out (q ∷ l) =
      elim (leb 2 (count_places q all) && leb 1 (count_places q out)) [ true ↦ q ∷ shared_places all out l | false ↦ shared_places all out l ]

  module _ (name_at : ℕ → List ℕ) where
    -- the text of the tree at a place
    unfoldable pub text_at : ℕ → List ℕ
    unfolding display trees_at
    text_at i = display (get_or (trees_at name_at ws) i (Op 0 nil))

    -- the second place beats the first: more savings, then deeper, then a later text
    unfoldable pub beats_at : ℕ → ℕ → Bool
    unfolding savings_at depth numbered_at before text_at
    beats_at i j =
        ltb (savings_at i) (savings_at j)
        || (eqb (savings_at i) (savings_at j)
        && (ltb (depth (numbered_at i)) (depth (numbered_at j))
        || (eqb (depth (numbered_at i)) (depth (numbered_at j)) && before (text_at i) (text_at j))))

    -- the best of one met so far and of the n places from i on: of equals the one met first
    unfoldable pub best_place_from : Bool → Option ℕ → ℕ → ℕ → Option ℕ
    unfolding candidate_at beats_at
    best_place_from scoped o i zero = o
    best_place_from scoped none i (suc n) =
        elim (candidate_at scoped i) [ true ↦ best_place_from scoped (some i) (suc i) n | false ↦ best_place_from scoped none (suc i) n ]
    best_place_from scoped (some a) i (suc n) =
        elim (candidate_at scoped i && beats_at a i) [
          | true ↦ best_place_from scoped (some i) (suc i) n
          | false ↦ best_place_from scoped (some a) (suc i) n
        ]

    unfoldable pub best_place : Bool → Option ℕ
    unfolding best_place_from
    best_place scoped = best_place_from scoped none 0 (length ws)

    -- ---- the divisors to bind, as places (01, "Reciprocals")

    -- in text order, equal texts as they stood
    unfoldable pub insert_place : ℕ → List ℕ → List ℕ
    unfolding before text_at
    insert_place q [] = q ∷ []
    insert_place q (r ∷ l) = elim (before (text_at r) (text_at q)) [ true ↦ r ∷ insert_place q l | false ↦ q ∷ (r ∷ l) ]

    unfoldable pub sort_places : List ℕ → List ℕ
    unfolding insert_place
    sort_places [] = []
    sort_places (q ∷ l) = insert_place q (sort_places l)

    unfoldable pub divisors_to_bind : Bool → List ℕ
    unfolding sort_places shared_places distinct_places divisor_places outside_at
    divisors_to_bind scoped =
        let all = divisor_places (λ j. true) (length ws) in
        sort_places (shared_places all (divisor_places (outside_at scoped) (length ws)) (distinct_places [] all))
