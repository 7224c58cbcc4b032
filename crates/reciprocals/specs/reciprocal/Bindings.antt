-- The binding of one divisor's reciprocal as words (01, "Reciprocals"): the words of `1 / d` settled by the divisors after it, where they stand, and when they stay
-- as they are. Assumes nothing.
use Rattle.std.specs.Prelude.{ℕ, ◌+◌, ◌≤◌, ◌≡◌, Bool, true, not, ◌&&◌, List, [], ◌∷◌, length, get_or, take, drop, eqb}
use Rattle.std.proofs.Math.Option.{Option, none, some}
use Rattle.spec_tree.specs.Kinds.{Div}
use Rattle.spec_tree.specs.Facts.{size}
use Rattle.spec_tree.specs.Tokens.{run_at, kind_of}
use Rattle.words.specs.words.Words.{some_trees}
use Rattle.laws.specs.positions.Places.{numbered_at, among_places}
use Rattle.reciprocals.specs.settle.Steps.{settled_words}

-- whether a tree stands at each place
unfoldable pub all_there : List ℕ → List ℕ → Bool
unfolding run_at some_trees
all_there base [] = true
all_there base (place ∷ l) = some_trees (run_at base place) && all_there base l

-- the words of 1 / d, where d is n words from a place on: a Div of two operands, the constant 1, and d
unfoldable pub one_over : List ℕ → ℕ → ℕ → List ℕ
one_over base place n = 134 ∷ 129 ∷ take n (drop place base)

-- none of some words is a division's
unfoldable pub no_division_words : List ℕ → Bool
no_division_words [] = true
no_division_words (w ∷ ws) = not (eqb (kind_of w) Div) && no_division_words ws

-- 1 / d stays as it is: there is no division in d, the n words from a place on, and none of the divisors after it is d
unfoldable pub is_plain : List ℕ → List ℕ → ℕ → ℕ → Bool
unfolding no_division_words among_places
is_plain base later place n = no_division_words (take n (drop place base)) && not (among_places base place later)

module _ (base places : List ℕ) (first j : ℕ) where
  -- the reciprocal of number j is settled from number j + 1 on
  unfoldable pub settled_reciprocal : ℕ → Option (List ℕ)
  unfolding settled_words one_over
  settled_reciprocal n = settled_words base (drop (j + 1) places) (first + (j + 1)) (one_over base (get_or places j 0) n)

  -- all words of the divisor of number j
  unfoldable pub whole_reciprocal : Option (List ℕ)
  unfolding settled_reciprocal size numbered_at
  whole_reciprocal = settled_reciprocal (size (numbered_at base (get_or places j 0)))

-- words were made, and they stand in front, n of them
unfoldable pub BoundSo : Option (List ℕ) → ℕ → List ℕ → Type 0
BoundSo none n out = ⊥
BoundSo (some new) n out = (n ≡ length new) × (take n out ≡ new) × (n ≤ length out)
