-- What each kind is worth under one reading (01, "Value, for demand 3"), by computing. `value` stands on both sides of 'same values', so that everything above
-- would be proved of a wrong one too; here a clause that is another one is refused. Assumes nothing.
use Prim.Native.Nat.{ℕ, ◌+◌, ◌*◌}
use native.Mathlib.Omega.{arith}
use mathlib.Core.Path.{◌≡◌, refl}
use mathlib.Core.List.{[], ◌∷◌}
use lib.IntN.{negsuc}
use lib.ListN.{get_or}
use lib.Dec.{ltb}
use Rattle.spec_tree.specs.Tree.{input, xname, mname, Tree, Const, Op, nil, ◌◂◌}
use Rattle.spec_tree.specs.Kinds.{Neg, Add, Sub, Mul, Div, Pow, Atan2, Heaviside, Clamp, Branch, Select, SelectOr}
use Rattle.spec_tree.specs.Value.{Reading, Env, value}
use Rattle.spec_tree.proofs.Notation.{v, x, num}

-- Modulo 101: r(b) is b + 7, a function's value tells its kind and each of its operands apart, an index is its arm's number, and a key below 50 picks the
-- first side.
abbrev by_101 : Reading
by_101 =
    record {
      modulus = 101;
      two_up = omega arith;
      reciprocal = λ b. b + 7;
      function = λ k l. k + 3 * get_or l 0 0 + 5 * get_or l 1 0 + 11 * get_or l 2 0;
      index = λ q. q;
      sign = λ q. ltb q 50;
    }

-- a symbol of the list holds its first byte, and any other name its number
abbrev holds : Env
holds (input []) = 0
holds (input (b ∷ l)) = b
holds (xname n) = n
holds (mname n) = n

abbrev worth : Tree → ℕ
worth t = value by_101 holds t

-- an operation on numbers
abbrev of_one : ℕ → ℕ → ℕ
of_one k a = worth (Op k (num a ◂ nil))

abbrev of_two : ℕ → ℕ → ℕ → ℕ
of_two k a b = worth (Op k (num a ◂ num b ◂ nil))

abbrev of_three : ℕ → ℕ → ℕ → ℕ → ℕ
of_three k a b c = worth (Op k (num a ◂ num b ◂ num c ◂ nil))

pub record Meanings : Type 0 where
  a_symbol : worth (v "f") ≡ 1
  a_name : worth (x 205) ≡ 3
  a_constant : worth (num 205) ≡ 3
  a_negative_constant : worth (Const (negsuc 204)) ≡ 98
  a_negation : of_one Neg 5 ≡ 96
  a_negation_of_zero : of_one Neg 101 ≡ 0
  a_sum : of_two Add 90 20 ≡ 9
  a_difference : of_two Sub 20 90 ≡ 31
  a_product : of_two Mul 90 20 ≡ 83
  a_quotient : of_two Div 90 20 ≡ 6
  a_power : of_two Pow 2 3 ≡ 28
  a_function_of_one : of_one Heaviside 2 ≡ 30
  a_function_of_two : of_two Atan2 2 3 ≡ 35
  a_function_of_three : of_three Clamp 2 3 4 ≡ 90
  the_first_arm : of_three Select 0 8 9 ≡ 8
  the_last_arm : of_three Select 1 8 9 ≡ 9
  past_the_last_arm : of_three Select 2 8 9 ≡ 0
  an_arm_before_the_default : of_three SelectOr 0 8 9 ≡ 8
  the_default : of_three SelectOr 1 8 9 ≡ 9
  the_default_from_far : of_three SelectOr 60 8 9 ≡ 9
  the_first_side : of_three Branch 1 8 9 ≡ 8
  the_second_side : of_three Branch 60 8 9 ≡ 9

pub meanings : Meanings
unfolding value
meanings =
    record {
      a_symbol = refl;
      a_name = refl;
      a_constant = refl;
      a_negative_constant = refl;
      a_negation = refl;
      a_negation_of_zero = refl;
      a_sum = refl;
      a_difference = refl;
      a_product = refl;
      a_quotient = refl;
      a_power = refl;
      a_function_of_one = refl;
      a_function_of_two = refl;
      a_function_of_three = refl;
      the_first_arm = refl;
      the_last_arm = refl;
      past_the_last_arm = refl;
      an_arm_before_the_default = refl;
      the_default = refl;
      the_default_from_far = refl;
      the_first_side = refl;
      the_second_side = refl;
    }
