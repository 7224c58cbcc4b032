-- Rows that print takes and rows that it refuses by 13 (01, "Turned down": Print), over one symbol and written in numbers, as a caller has them: a record with a
-- field for each, and a theorem that the definition of 13 does so, by computing. A test of statements has as a rule a row that it alone refuses, so that a
-- definition without it is refused here. Assumes nothing.
use Prim.Native.Nat.{ℕ}
use Prim.Native.String.{String}
use mathlib.Core.Path.{◌≡◌, refl}
use mathlib.Core.Bool.{cond}
use mathlib.Core.List.{List, [], ◌∷◌}
use Rattle.spec_tree.specs.Outcome.{Outcome, ok, refused, by}
use Rattle.spec_tree.specs.Bytes.{bytes}
use Rattle.spec_tree.specs.Rows.{Row, row_sym}
use Rattle.spec_tree.specs.Tokens.{word, name_in}
use Rattle.spec_cse.specs.Answer.{answer_text}
use Rattle.spec_cse.specs.AnswerRows.{answer_of, answer_laid_out}

-- ---- the rows

-- the codes of names are 0 for a, 1 for `__x0`, 2 for `__m0` and 5 for `__m1`
abbrev a : ℕ
a = word 0 0

abbrev x0 : ℕ
x0 = word 0 1

abbrev m0 : ℕ
m0 = word 0 2

-- and those of constants 0, 1 and 2 for 0, -1 and 1, and so on
abbrev constant : ℕ → ℕ
constant c = word 1 c

-- 10^15
abbrev too_large : ℕ
too_large = constant 2000000000000000

-- a let and a match name by their codes
abbrev let_of : ℕ → ℕ
let_of c = word 29 c

abbrev name : ℕ → ℕ
name c = word 33 c

-- a match of Branch, of Select and of Select with a default, and an arm, by how many stand below
abbrev if_else : ℕ → ℕ
if_else n = word 30 n

abbrev select : ℕ → ℕ
select n = word 31 n

abbrev select_or : ℕ → ℕ
select_or n = word 32 n

abbrev arm_of : ℕ → ℕ
arm_of n = word 34 n

abbrev value : ℕ
value = word 35 0

abbrev result : ℕ
result = word 36 0

-- ---- what print makes of them

abbrev Printing : Type 0
Printing = List ℕ → Outcome (List ℕ)

abbrev Taken : Printing → List ℕ → String → Type 0
Taken prints ws s = prints ws ≡ ok (bytes s)

abbrev No : Printing → List ℕ → Type 0
No prints ws = prints ws ≡ refused (by 13)

pub record RowsRefused (prints : List ℕ → Outcome (List ℕ)) : Type 0 where
  -- taken
  pub a_let : Taken prints (let_of 1 ∷ a ∷ result ∷ x0 ∷ []) "let __x0 = a;\n__x0\n"
  pub a_match :
      Taken prints (select 3 ∷ a ∷ name 2 ∷ arm_of 1 ∷ value ∷ a ∷ result ∷ m0 ∷ [])
      "let __m0 = match a { 0 => a, _ => panic };\n__m0\n"
  pub a_default :
      Taken prints (select_or 4 ∷ a ∷ name 2 ∷ arm_of 1 ∷ value ∷ a ∷ arm_of 1 ∷ value ∷ a ∷ [])
      "let __m0 = match a { 0 => a, _ => a };\n"
  pub a_branch :
      Taken prints (if_else 4 ∷ a ∷ name 2 ∷ arm_of 1 ∷ value ∷ a ∷ arm_of 1 ∷ value ∷ a ∷ [])
      "let __m0 = if a >= 0 { a } else { a };\n"
  pub the_largest_constant : Taken prints (result ∷ constant 1999999999999998 ∷ []) "999999999999999\n"
  -- constants
  pub a_constant_too_large : No prints (result ∷ too_large ∷ [])
  pub a_negative_constant_too_large : No prints (result ∷ constant 1999999999999999 ∷ [])
  -- lets
  pub a_let_of_a_symbol : No prints (let_of 0 ∷ constant 2 ∷ [])
  pub a_let_of_an_m_name : No prints (let_of 2 ∷ a ∷ [])
  pub a_second_let_of_an_m_name : No prints (let_of 1 ∷ a ∷ let_of 2 ∷ a ∷ [])
  pub a_let_of_a_constant_too_large : No prints (let_of 1 ∷ too_large ∷ [])
  -- names of a match
  pub a_match_of_a_symbol : No prints (select 3 ∷ constant 2 ∷ name 0 ∷ arm_of 1 ∷ value ∷ constant 2 ∷ [])
  pub a_match_of_an_x_name : No prints (select 3 ∷ a ∷ name 1 ∷ arm_of 1 ∷ value ∷ a ∷ [])
  pub a_second_name_that_is_an_x_name : No prints (select 4 ∷ a ∷ name 2 ∷ name 1 ∷ arm_of 2 ∷ value ∷ a ∷ value ∷ a ∷ [])
  pub a_match_without_names : No prints (select 2 ∷ a ∷ arm_of 0 ∷ [])
  -- its key and arms
  pub a_key_too_large : No prints (select 3 ∷ too_large ∷ name 2 ∷ arm_of 1 ∷ value ∷ a ∷ [])
  pub a_match_without_arms : No prints (select 2 ∷ a ∷ name 2 ∷ [])
  pub a_default_alone : No prints (select_or 3 ∷ a ∷ name 2 ∷ arm_of 1 ∷ value ∷ a ∷ [])
  pub a_branch_with_one_side : No prints (if_else 3 ∷ a ∷ name 2 ∷ arm_of 1 ∷ value ∷ a ∷ [])
  pub no_value : No prints (select 3 ∷ a ∷ name 2 ∷ arm_of 0 ∷ [])
  pub two_values_for_one_name : No prints (select 3 ∷ a ∷ name 2 ∷ arm_of 2 ∷ value ∷ a ∷ value ∷ a ∷ [])
  pub no_value_in_a_second_arm : No prints (select 4 ∷ a ∷ name 2 ∷ arm_of 1 ∷ value ∷ a ∷ arm_of 0 ∷ [])
  pub a_value_too_large : No prints (select 3 ∷ a ∷ name 2 ∷ arm_of 1 ∷ value ∷ too_large ∷ [])
  pub a_let_of_an_m_name_in_an_arm : No prints (select 3 ∷ a ∷ name 2 ∷ arm_of 2 ∷ let_of 5 ∷ a ∷ value ∷ a ∷ [])
  -- earlier reference
  pub a_name_twice : No prints (select 4 ∷ a ∷ name 2 ∷ name 2 ∷ arm_of 2 ∷ value ∷ a ∷ value ∷ a ∷ [])
  pub its_own_name_as_key : No prints (select 3 ∷ m0 ∷ name 2 ∷ arm_of 1 ∷ value ∷ a ∷ [])
  pub its_own_name_in_an_arm : No prints (select 3 ∷ a ∷ name 2 ∷ arm_of 1 ∷ value ∷ m0 ∷ [])
  pub a_name_of_an_arm_after_it : No prints (select 3 ∷ a ∷ name 2 ∷ arm_of 2 ∷ let_of 1 ∷ a ∷ value ∷ x0 ∷ result ∷ x0 ∷ [])
  -- kinds of rows
  pub a_value_among_results : No prints (value ∷ a ∷ [])
  pub a_result_in_an_arm : No prints (select 3 ∷ a ∷ name 2 ∷ arm_of 1 ∷ result ∷ a ∷ [])

-- ---- by the definition of 13

abbrev one_row : List Row
one_row = row_sym (bytes "a") ∷ []

pub rows_refused : RowsRefused (λ ws. cond (answer_laid_out one_row ws) (ok (answer_text (answer_of (name_in one_row) 0 ws))) (refused (by 13)))
unfolding answer_laid_out answer_of answer_text name_in
rows_refused =
    record {
      a_let = refl;
      a_match = refl;
      a_default = refl;
      a_branch = refl;
      the_largest_constant = refl;
      a_constant_too_large = refl;
      a_negative_constant_too_large = refl;
      a_let_of_a_symbol = refl;
      a_let_of_an_m_name = refl;
      a_second_let_of_an_m_name = refl;
      a_let_of_a_constant_too_large = refl;
      a_match_of_a_symbol = refl;
      a_match_of_an_x_name = refl;
      a_second_name_that_is_an_x_name = refl;
      a_match_without_names = refl;
      a_key_too_large = refl;
      a_match_without_arms = refl;
      a_default_alone = refl;
      a_branch_with_one_side = refl;
      no_value = refl;
      two_values_for_one_name = refl;
      no_value_in_a_second_arm = refl;
      a_value_too_large = refl;
      a_let_of_an_m_name_in_an_arm = refl;
      a_name_twice = refl;
      its_own_name_as_key = refl;
      its_own_name_in_an_arm = refl;
      a_name_of_an_arm_after_it = refl;
      a_value_among_results = refl;
      a_result_in_an_arm = refl;
    }
