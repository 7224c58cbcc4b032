-- Worked out by computing: of equal factors the first is taken out, and the name, put in at the end, is one of the factors from then on. Assumes nothing.
use Rattle.std.proofs.Common.{◌≡◌, ℕ, [], ◌∷◌, refl}
use mathlib.Core.Option.{some}
use Rattle.replace.specs.matching.Matching.{words_at, remove_runs, take_out_places}

-- the words of a, b and __x0
abbrev a : ℕ
a = 0

abbrev b : ℕ
b = 192

abbrev x0 : ℕ
x0 = 64

pub record Examples : Type 0 where
  -- a, b, a without a: the second and the third are left
  pub first_of_equal : remove_runs (words_at (a ∷ b ∷ a ∷ []) x0) ((a ∷ []) ∷ []) (0 ∷ 1 ∷ 2 ∷ []) ≡ some (1 ∷ 2 ∷ [])
  -- a and b taken out of b, a, a, b: nothing is left but the name, twice
  pub twice : take_out_places 8 (words_at (b ∷ a ∷ a ∷ b ∷ []) x0) 4 ((a ∷ []) ∷ (b ∷ []) ∷ []) (0 ∷ 1 ∷ 2 ∷ 3 ∷ []) ≡ record { places = 4 ∷ 4 ∷ []; times = 2 }
  -- a and the name taken out of a, the name, a: the name that was put in is taken out with the second a
  pub name_again : take_out_places 6 (words_at (a ∷ x0 ∷ a ∷ []) x0) 3 ((a ∷ []) ∷ (x0 ∷ []) ∷ []) (0 ∷ 1 ∷ 2 ∷ []) ≡ record { places = 3 ∷ []; times = 2 }

pub examples : Examples
unfolding remove_runs words_at take_out_places
examples = record { first_of_equal = refl; twice = refl; name_again = refl }
