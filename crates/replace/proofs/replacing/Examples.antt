-- Worked out by computing: a product whose factors stand in another order, twice, with a coefficient, and one that is refused. Assumes nothing.
use Rattle.std.proofs.Common.{◌≡◌, ℕ, List, [], ◌∷◌, refl}
use Rattle.spec_tree.specs.Outcome.{ok, refused, by}
use Rattle.words.specs.words.Words.{tree_of, name_of}
use Rattle.replace.specs.replacing.Replacing.{replaced_words}

-- the words of a, b, c, of a product and of a minus sign, of the constants 0 and 2, and of __x0
abbrev a : ℕ
a = 0

abbrev b : ℕ
b = 192

abbrev c : ℕ
c = 384

abbrev times : ℕ
times = 133

abbrev minus : ℕ
minus = 66

abbrev zero : ℕ
zero = 1

abbrev two : ℕ
two = 257

abbrev x0 : ℕ
x0 = 64

-- a * b
abbrev target : List ℕ
target = times ∷ a ∷ b ∷ []

pub record Examples : Type 0 where
  -- b * c * a becomes c * __x0
  pub reordered : replaced_words (tree_of target) (name_of x0) (times ∷ times ∷ b ∷ c ∷ a ∷ []) ≡ ok (times ∷ c ∷ x0 ∷ [])
  -- a * (b * (b * a)) becomes __x0 * __x0
  pub twice : replaced_words (tree_of target) (name_of x0) (times ∷ a ∷ times ∷ b ∷ times ∷ b ∷ a ∷ []) ≡ ok (times ∷ x0 ∷ x0 ∷ [])
  -- 2 * a * -b becomes -2 * __x0, whose constant has the code 3
  pub coefficient : replaced_words (tree_of target) (name_of x0) (times ∷ times ∷ two ∷ a ∷ minus ∷ b ∷ []) ≡ ok (times ∷ 193 ∷ x0 ∷ [])
  -- 0 * a * -b has the coefficient minus zero
  pub minus_zero : replaced_words (tree_of target) (name_of x0) (times ∷ times ∷ zero ∷ a ∷ minus ∷ b ∷ []) ≡ refused (by 10)

pub examples : Examples
unfolding replaced_words tree_of name_of
examples = record { reordered = refl; twice = refl; coefficient = refl; minus_zero = refl }
