-- Small products taken apart by the definitions: M10 of 01 with its two coefficients, minus signs, and places that are refused. Assumes nothing.
use Rattle.std.specs.Prelude.{Some, None, Ok, Err}
use Rattle.words.specs.declared.fault.Fault.TheVariants as fault
use Rattle.std.proofs.Common.{◌≡◌, ℕ, true, List, [], ◌∷◌, pos, refl}
use lib.Ieee.{fin, of_int, mul, neg, round}
use Rattle.spec_tree.specs.Tokens.{run_at, trees_at}
use Rattle.spec_rewrite.specs.Rewrite.{constant_of, flatten_mul_factors}
use Rattle.replace.specs.coefficient.Answers.{constant_answer}
use Rattle.replace.specs.factors.Places.{tree, factor_places}
use Rattle.replace.specs.factors.Answers.{flatten_answer}

-- ((1000000000 * a) * n) * b, with the code of n
abbrev product : ℕ → List ℕ
product n = 133 ∷ 133 ∷ 133 ∷ 128000000001 ∷ 0 ∷ n ∷ 192 ∷ []

-- -(-3 * (a * -(b))), and -(0)
abbrev minus : List ℕ
minus = 66 ∷ 133 ∷ 321 ∷ 133 ∷ 0 ∷ 66 ∷ 192 ∷ []

abbrev minus_zero : List ℕ
minus_zero = 66 ∷ 1 ∷ []

abbrev room : List ℕ
room = 9 ∷ 9 ∷ 9 ∷ 9 ∷ 9 ∷ 9 ∷ 9 ∷ []

pub record Examples : Type 0 where
  -- 10^15 is refused, and 999999000000000 is exact
  too_large : constant_answer (constant_of (flatten_mul_factors (tree (product 128000001) 0)).coefficient) ≡ None
  exact : constant_answer (constant_of (flatten_mul_factors (tree (product 127999873) 0)).coefficient) ≡ Some 1999998000000000
  -- a and b stand at 4 and 6, and what stood after them stays
  where_they_stand : (flatten_answer (product 127999873) 0 room).places ≡ 4 ∷ 6 ∷ 9 ∷ 9 ∷ 9 ∷ 9 ∷ 9 ∷ []
  -- -3 with two minus signs is -3, the code 5
  signs : flatten_answer minus 0 room ≡ record { answer = Ok (record { coefficient = fin true 3 (pos 0); count = 2 }); places = 4 ∷ 6 ∷ 9 ∷ 9 ∷ 9 ∷ 9 ∷ 9 ∷ [] }
  signs_read_back : constant_answer (constant_of (flatten_mul_factors (tree minus 0)).coefficient) ≡ Some 5
  no_minus_zero : constant_answer (constant_of (flatten_mul_factors (tree minus_zero 0)).coefficient) ≡ None
  -- b alone is its own factor; past the end is no tree; six places are too few for seven words
  one_factor : (flatten_answer minus 6 room).places ≡ 6 ∷ 9 ∷ 9 ∷ 9 ∷ 9 ∷ 9 ∷ 9 ∷ []
  past_the_end : (flatten_answer minus 7 room).answer ≡ Err fault.Broken
  too_few : (flatten_answer minus 0 (9 ∷ 9 ∷ 9 ∷ 9 ∷ 9 ∷ 9 ∷ [])).answer ≡ Err fault.NoRoom

pub examples : Examples
unfolding flatten_answer constant_answer constant_of flatten_mul_factors trees_at factor_places run_at of_int mul neg round
examples =
    record {
      too_large = refl;
      exact = refl;
      where_they_stand = refl;
      signs = refl;
      signs_read_back = refl;
      no_minus_zero = refl;
      one_factor = refl;
      past_the_end = refl;
      too_few = refl;
    }
