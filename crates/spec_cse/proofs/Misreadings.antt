-- Small lists that a likely misreading of 01 answers otherwise: one theorem, a field for each, named by what it shuts out. They stand beside the definitions, so that
-- a definition by such a misreading is refused here. Assumes nothing.
use Prim.Native.Nat.{ℕ}
use Prim.Native.String.{String}
use mathlib.Core.Path.{◌≡◌, refl}
use mathlib.Core.Bool.{Bool, true, false}
use mathlib.Core.List.{List, [], ◌∷◌}
use lib.IntN.{negsuc}
use Rattle.spec_tree.specs.Outcome.{Outcome, ok, refused, ◌>>=◌, by}
use Rattle.spec_tree.specs.Tree.{Tree, Const, Op, nil, ◌◂◌}
use Rattle.spec_tree.specs.Kinds.{Branch, Select, SelectOr}
use Rattle.spec_tree.specs.Bytes.{bytes}
use Rattle.spec_tree.proofs.Notation.{v, num, ◌⊕◌, ◌⊗◌, ◌⊘◌, minus, sin, cos}
use Rattle.spec_cse.specs.Answer.{answer_text, rows}
use Rattle.spec_cse.specs.Scope.{answer}

abbrev tan : Tree → Tree
tan a = Op 10 (a ◂ nil)

abbrev minus_one : Tree
minus_one = Const (negsuc 0)

-- twice, four times, and so on: a product of thirty-two
abbrev square : Tree → Tree
square a = a ⊗ a

abbrev huge : Tree
huge = square (square (square (square (square (num 999999999999999)))))

-- a * b twice, and another product
abbrev beside_ab : Tree → List Tree
beside_ab e = v "a" ⊗ v "b" ∷ sin (v "a" ⊗ v "b") ∷ e ∷ []

-- trees of one text, of symbols and of numbers
abbrev right_abc : Tree
right_abc = v "a" ⊕ (v "b" ⊕ v "c")

abbrev left_abc : Tree
left_abc = v "a" ⊕ v "b" ⊕ v "c"

abbrev right_123 : Tree
right_123 = num 1 ⊕ (num 2 ⊕ num 3)

abbrev left_123 : Tree
left_123 = num 1 ⊕ num 2 ⊕ num 3

-- an answer's rows, extraction count and text
abbrev Summary : Type 0
Summary = record { rows : ℕ; extracted : ℕ; text : List ℕ }

unfoldable summary : Bool → List Tree → Outcome Summary
unfolding answer answer_text rows
summary scoped es = answer scoped es >>= λ a. ok (record { rows = rows a; extracted = a.extracted; text = answer_text a })

abbrev given : ℕ → ℕ → String → Outcome Summary
given n x s = ok (record { rows = n; extracted = x; text = bytes s })

-- flat, and scoped
abbrev Both : List Tree → Outcome Summary → Outcome Summary → Type 0
Both es flat scoped = (summary false es ≡ flat) × (summary true es ≡ scoped)

-- the same in both forms
abbrev Same : List Tree → Outcome Summary → Type 0
Same es o = Both es o o

pub record Misreadings : Type 0 where
  summing_select_arms :
      Both (Op Select (v "i" ◂ sin (v "a") ◂ sin (v "b") ◂ nil) ∷ Op Select (v "i" ◂ sin (v "a") ◂ sin (v "b") ◂ nil) ∷ tan (sin (v "c")) ∷ tan (sin (v "c")) ∷ [])
      (given 19 2 "let __x1 = select(i, sin(a), sin(b));\nlet __x0 = tan(sin(c));\n__x1\n__x1\n__x0\n__x0\n")
      (given 25 2 "let __m2 = match i { 0 => sin(a), 1 => sin(b), _ => panic };\nlet __x1 = __m2;\nlet __x0 = tan(sin(c));\n__x1\n__x1\n__x0\n__x0\n")
  a_default_without_cost :
      Both (Op SelectOr (v "i" ◂ v "a" ◂ sin (v "b") ◂ nil) ∷ Op SelectOr (v "i" ◂ v "a" ◂ sin (v "b") ◂ nil) ∷ tan (v "c") ∷ tan (v "c") ∷ tan (v "c") ∷ [])
      (given 19 2 "let __x1 = tan(c);\nlet __x0 = select_or(i, a, sin(b));\n__x0\n__x0\n__x1\n__x1\n__x1\n")
      (given 25 2 "let __m2 = match i { 0 => a, _ => sin(b) };\nlet __x0 = __m2;\nlet __x1 = tan(c);\n__x0\n__x0\n__x1\n__x1\n__x1\n")
  the_dearest_branch_arm_alone :
      Both (Op Branch (v "i" ◂ sin (v "a") ◂ sin (v "b") ◂ nil) ∷ Op Branch (v "i" ◂ sin (v "a") ◂ sin (v "b") ◂ nil) ∷ tan (sin (v "c")) ∷ tan (sin (v "c")) ∷ [])
      (given 19 2 "let __x1 = tan(sin(c));\nlet __x0 = branch(i, sin(a), sin(b));\n__x0\n__x0\n__x1\n__x1\n")
      (given 25 2 "let __m2 = if i >= 0 { sin(a) } else { sin(b) };\nlet __x0 = __m2;\nlet __x1 = tan(sin(c));\n__x0\n__x0\n__x1\n__x1\n")
  savings_of_all_uses :
      Same (sin (sin (sin (v "a"))) ∷ sin (sin (sin (v "a"))) ∷ sin (v "b") ∷ sin (v "b") ∷ sin (v "b") ∷ sin (v "b") ∷ sin (v "b") ∷ [])
      (given 22 2 "let __x1 = sin(sin(sin(a)));\nlet __x0 = sin(b);\n__x1\n__x1\n__x0\n__x0\n__x0\n__x0\n__x0\n")
  earlier_bindings_left_as_they_stand :
      Same (cos (v "a" ⊕ v "b") ∷ cos (v "a" ⊕ v "b") ∷ v "a" ⊕ v "b" ∷ [])
      (given 13 2 "let __x1 = a + b;\nlet __x0 = cos(__x1);\n__x0\n__x0\n__x1\n")
  divisors_as_met :
      Same (v "p" ⊘ num 3 ∷ v "q" ⊘ num 3 ∷ v "p" ⊘ num 2 ∷ v "q" ⊘ num 2 ∷ [])
      (given 24 0 "let __x1 = 1 / 3;\nlet __x0 = 1 / 2;\np * __x1\nq * __x1\np * __x0\nq * __x0\n")
  divisors_of_equal_text_turned_round :
      Same (v "p" ⊘ right_123 ∷ v "q" ⊘ left_123 ∷ v "q" ⊘ right_123 ∷ v "p" ⊘ left_123 ∷ [])
      (given 32 0 "let __x1 = 1 / (1 + 2 + 3);\nlet __x0 = 1 / (1 + 2 + 3);\np * __x0\nq * __x1\nq * __x0\np * __x1\n")
  divisors_of_equal_text_by_tree :
      Same (v "p" ⊘ left_123 ∷ v "q" ⊘ right_123 ∷ v "q" ⊘ left_123 ∷ v "p" ⊘ right_123 ∷ [])
      (given 32 0 "let __x1 = 1 / (1 + 2 + 3);\nlet __x0 = 1 / (1 + 2 + 3);\np * __x0\nq * __x1\nq * __x0\np * __x1\n")
  a_divisor_of_one_arm_bound_outside :
      Both (Op Select (v "i" ◂ (v "p" ⊘ num 2 ⊕ v "q" ⊘ num 2) ◂ nil) ∷ [])
      (given 14 0 "let __x0 = 1 / 2;\nselect(i, p * __x0 + q * __x0)\n")
      (given 18 0 "let __m0 = match i { 0 => { let __x1 = 1 / 2; p * __x1 + q * __x1 }, _ => panic };\n__m0\n")
  divisions_left_in_bindings :
      Same (cos (v "p" ⊘ num 2) ∷ sin (cos (v "p" ⊘ num 2)) ∷ v "q" ⊘ num 2 ∷ [])
      (given 18 1 "let __x1 = 1 / 2;\nlet __x0 = cos(p * __x1);\n__x0\nsin(__x0)\nq * __x1\n")
  recounting_divisors :
      Same (v "p" ⊘ (num 3 ⊘ num 2) ∷ v "q" ⊘ (num 3 ⊘ num 2) ∷ [])
      (given 22 0 "let __x1 = 1 / (3 / 2);\nlet __x0 = 1 / 2;\np / (3 * __x0)\nq / (3 * __x0)\n")
  one_match_to_a_product :
      Same (v "a" ⊗ v "b" ∷ sin (v "a" ⊗ v "b") ∷ v "a" ⊗ v "a" ⊗ v "b" ⊗ v "b" ∷ [])
      (given 13 1 "let __x0 = a * b;\n__x0\nsin(__x0)\n__x0 * __x0\n")
  minus_zero_as_a_constant :
      Same (v "a" ⊗ v "b" ∷ sin (v "a" ⊗ v "b") ∷ v "a" ⊗ (minus_one ⊗ num 0) ⊗ v "b" ∷ [])
      (refused (by 10))
  refusing_zero :
      Same (v "a" ⊗ v "b" ∷ sin (v "a" ⊗ v "b") ∷ v "a" ⊗ (num 1 ⊗ num 0) ⊗ v "b" ∷ [])
      (given 13 1 "let __x0 = a * b;\n__x0\nsin(__x0)\n0 * __x0\n")
  no_number_as_a_constant :
      Same (v "a" ⊗ v "b" ∷ sin (v "a" ⊗ v "b") ∷ v "a" ⊗ huge ⊗ (num 0 ⊗ v "b") ∷ [])
      (refused (by 10))
  fusing_branch_with_select :
      Both (Op Branch (v "i" ◂ v "a" ◂ v "b" ◂ nil) ∷ Op Select (v "i" ◂ v "a" ◂ v "b" ◂ nil) ∷ [])
      (given 10 0 "branch(i, a, b)\nselect(i, a, b)\n")
      (given 22 0 "let __m1 = match i { 0 => a, 1 => b, _ => panic };\nlet __m0 = if i >= 0 { a } else { b };\n__m0\n__m1\n")
  fusing_with_and_without_default :
      Both (Op Select (v "i" ◂ v "a" ◂ v "b" ◂ nil) ∷ Op SelectOr (v "i" ◂ v "a" ◂ v "b" ◂ nil) ∷ [])
      (given 10 0 "select(i, a, b)\nselect_or(i, a, b)\n")
      (given 22 0 "let __m1 = match i { 0 => a, _ => b };\nlet __m0 = match i { 0 => a, 1 => b, _ => panic };\n__m0\n__m1\n")
  keys_of_earlier_matches_left :
      Both (Op Select (Op Select (v "i" ◂ v "a" ◂ nil) ◂ v "b" ◂ nil) ∷ [])
      (given 6 0 "select(select(i, a), b)\n")
      (given 14 0 "let __m1 = match i { 0 => a, _ => panic };\nlet __m0 = match __m1 { 0 => b, _ => panic };\n__m0\n")
  switches_of_the_list_given :
      Both (Op Select (v "i" ◂ v "a" ◂ nil) ∷ Op Select (Op Select (v "i" ◂ v "a" ◂ nil) ◂ v "b" ◂ nil) ∷ [])
      (given 10 1 "let __x0 = select(i, a);\n__x0\nselect(__x0, b)\n")
      (given 18 1 "let __m2 = match i { 0 => a, _ => panic };\nlet __x0 = __m2;\nlet __m1 = match __x0 { 0 => b, _ => panic };\n__x0\n__m1\n")
  ranking_by_text_before_depth :
      Same (sin (sin (v "a")) ∷ sin (sin (v "a")) ∷ v "b" ∷ tan (v "b") ∷ tan (v "b") ∷ tan (v "b") ∷ [])
      (given 19 2 "let __x1 = tan(b);\nlet __x0 = sin(sin(a));\n__x0\n__x0\nb\n__x1\n__x1\n__x1\n")
  ranking_by_text_before_depth_in_sums :
      Same (sin (v "a") ⊕ v "b" ∷ sin (v "a") ⊕ v "b" ∷ v "p" ⊕ v "q" ⊕ tan (v "c" ⊕ v "d") ∷ tan (v "c" ⊕ v "d") ∷ [])
      (given 22 2 "let __x1 = sin(a) + b;\nlet __x0 = tan(c + d);\n__x1\n__x1\np + q + __x0\n__x0\n")
  taking_the_oldest_first :
      Same (sin (v "a" ⊕ v "b") ⊕ cos (v "a" ⊕ v "b") ∷ sin (v "a" ⊕ v "b") ⊕ cos (v "a" ⊕ v "b") ∷ sin (v "c" ⊕ v "d") ⊕ sin (sin (v "c" ⊕ v "d")) ∷ sin (v "a" ⊕ v "b") ∷ sin (cos (v "a" ⊕ v "b")) ∷ [])
      (given 33 5 "let __x2 = sin(c + d);\nlet __x1 = a + b;\nlet __x4 = cos(__x1);\nlet __x3 = sin(__x1);\nlet __x0 = __x3 + __x4;\n__x0\n__x0\n__x2 + sin(__x2)\n__x3\nsin(__x4)\n")
  summing_the_default :
      Both (Op SelectOr (v "i" ◂ sin (v "a") ◂ sin (v "b") ◂ nil) ∷ Op SelectOr (v "i" ◂ sin (v "a") ◂ sin (v "b") ◂ nil) ∷ tan (sin (v "c")) ∷ tan (sin (v "c")) ∷ [])
      (given 19 2 "let __x1 = select_or(i, sin(a), sin(b));\nlet __x0 = tan(sin(c));\n__x1\n__x1\n__x0\n__x0\n")
      (given 25 2 "let __m2 = match i { 0 => sin(a), _ => sin(b) };\nlet __x1 = __m2;\nlet __x0 = tan(sin(c));\n__x1\n__x1\n__x0\n__x0\n")
  the_dearest_without_the_default :
      Both (Op SelectOr (v "i" ◂ v "a" ◂ sin (sin (v "b")) ◂ nil) ∷ Op SelectOr (v "i" ◂ v "a" ◂ sin (sin (v "b")) ◂ nil) ∷ tan (v "c") ∷ tan (v "c") ∷ tan (v "c") ∷ sin (sin (v "c")) ∷ sin (sin (v "c")) ∷ [])
      (given 28 3 "let __x2 = tan(c);\nlet __x1 = sin(sin(c));\nlet __x0 = select_or(i, a, sin(sin(b)));\n__x0\n__x0\n__x2\n__x2\n__x2\n__x1\n__x1\n")
      (given 34 3 "let __m3 = match i { 0 => a, _ => sin(sin(b)) };\nlet __x0 = __m3;\nlet __x2 = tan(c);\nlet __x1 = sin(sin(c));\n__x0\n__x0\n__x2\n__x2\n__x2\n__x1\n__x1\n")
  a_match_that_none_reads_left_out :
      Both (Op Select (num 1 ◂ num 2 ◂ nil) ∷ Op Select (Op Select (num 1 ◂ num 2 ◂ nil) ◂ v "b" ◂ nil) ∷ [])
      (given 10 0 "select(1, 2)\nselect(select(1, 2), b)\n")
      (given 20 0 "let __m1 = match select(1, 2) { 0 => b, _ => panic };\nlet __m0 = match 1 { 0 => 2, _ => panic };\n__m0\nselect(__m0, b)\n")
  two_matches_to_a_product :
      Same (v "a" ⊗ v "b" ∷ sin (v "a" ⊗ v "b") ∷ v "a" ⊗ v "b" ⊗ v "a" ⊗ v "b" ⊗ v "a" ⊗ v "b" ⊗ v "a" ⊗ v "b" ∷ [])
      (given 17 1 "let __x0 = a * b;\n__x0\nsin(__x0)\n__x0 * __x0 * __x0 * __x0\n")
  a_count_without_arms :
      Both (Op Select (v "i" ◂ ((v "a" ⊕ v "b") ⊗ (v "a" ⊕ v "b")) ◂ nil) ∷ [])
      (given 10 1 "let __x0 = a + b;\nselect(i, __x0 * __x0)\n")
      (given 14 1 "let __m0 = match i { 0 => { let __x1 = a + b; __x1 * __x1 }, _ => panic };\n__m0\n")
  -- one position of the list is a member twice, once as a divisor bound before the next divisor was: 3 / S and S with S = select(1, 7 / 2)
  refusing_a_switch_in_a_bound_divisor :
      Both (v "p" ⊘ (num 3 ⊘ Op Select (num 1 ◂ (num 7 ⊘ num 2) ◂ nil)) ∷ v "q" ⊘ (num 3 ⊘ Op Select (num 1 ◂ (num 7 ⊘ num 2) ◂ nil)) ∷ v "r" ⊘ num 2 ∷ [])
      (given 42 0 "let __x2 = 1 / select(1, 7 / 2);\nlet __x1 = 1 / (3 * __x2);\nlet __x0 = 1 / 2;\np / (3 / select(1, 7 * __x0))\nq / (3 / select(1, 7 * __x0))\nr * __x0\n")
      (given 43 0 "let __x0 = 1 / 2;\nlet (__m3, __m4) = match 1 { 0 => (7 * __x0, 7 / 2), _ => panic };\nlet __x2 = 1 / __m4;\nlet __x1 = 1 / (3 * __x2);\np / (3 / __m3)\nq / (3 / __m3)\nr * __x0\n")
  -- ties: candidates that only the place where they are met tells apart
  ties_by_the_last_met :
      Same (sin right_abc ∷ cos right_abc ∷ sin left_abc ∷ cos left_abc ∷ [])
      (given 24 2 "let __x1 = a + b + c;\nlet __x0 = a + b + c;\nsin(__x0)\ncos(__x0)\nsin(__x1)\ncos(__x1)\n")
  ties_by_the_first_met_outside_arms :
      Both (Op Select (v "i" ◂ right_abc ◂ nil) ∷ left_abc ∷ left_abc ∷ left_abc ∷ right_abc ∷ right_abc ∷ [])
      (given 26 2 "let __x1 = a + b + c;\nlet __x0 = a + b + c;\nselect(i, __x0)\n__x1\n__x1\n__x1\n__x0\n__x0\n")
      (given 30 2 "let __x1 = a + b + c;\nlet __x0 = a + b + c;\nlet __m2 = match i { 0 => __x0, _ => panic };\n__m2\n__x1\n__x1\n__x1\n__x0\n__x0\n")
  -- divisors of one text: as they are first divided by, in the results before the bindings, and in arms too
  divisors_of_equal_text_by_node :
      Same (sin right_123 ∷ v "p" ⊘ left_123 ∷ v "q" ⊘ left_123 ∷ v "p" ⊘ right_123 ∷ v "q" ⊘ right_123 ∷ [])
      (given 39 0 "let __x1 = 1 / (1 + 2 + 3);\nlet __x0 = 1 / (1 + 2 + 3);\nsin(1 + 2 + 3)\np * __x0\nq * __x0\np * __x1\nq * __x1\n")
  divisors_of_equal_text_met_outside_arms :
      Both (Op Select (v "i" ◂ (v "p" ⊘ right_123) ◂ nil) ∷ v "p" ⊘ left_123 ∷ v "q" ⊘ left_123 ∷ v "q" ⊘ right_123 ∷ [])
      (given 34 0 "let __x1 = 1 / (1 + 2 + 3);\nlet __x0 = 1 / (1 + 2 + 3);\nselect(i, p * __x0)\np * __x1\nq * __x1\nq * __x0\n")
      (given 38 0 "let __x1 = 1 / (1 + 2 + 3);\nlet __x0 = 1 / (1 + 2 + 3);\nlet __m2 = match i { 0 => p * __x0, _ => panic };\n__m2\np * __x1\nq * __x1\nq * __x0\n")
  divisors_of_equal_text_met_in_bindings_first :
      Same (v "q" ⊘ right_123 ∷ cos (v "p" ⊘ left_123) ∷ sin (cos (v "p" ⊘ left_123)) ∷ v "r" ⊘ left_123 ∷ v "r" ⊘ right_123 ∷ [])
      (given 38 1 "let __x2 = 1 / (1 + 2 + 3);\nlet __x0 = cos(p * __x2);\nlet __x1 = 1 / (1 + 2 + 3);\nq * __x1\n__x0\nsin(__x0)\nr * __x2\nr * __x1\n")
  -- factors, from the left: spec_rewrite/proofs/Examples has the same of `replace` alone
  removing_the_last_equal_factor :
      Same (beside_ab (v "a" ⊗ v "c" ⊗ v "a" ⊗ v "b"))
      (given 15 1 "let __x0 = a * b;\n__x0\nsin(__x0)\nc * a * __x0\n")
  factors_from_the_right :
      Same (beside_ab ((v "c" ⊗ v "a") ⊗ (v "b" ⊗ v "d")))
      (given 15 1 "let __x0 = a * b;\n__x0\nsin(__x0)\nc * d * __x0\n")
  a_sign_lost_or_kept_as_a_constant :
      Same (beside_ab (minus (v "a") ⊗ v "c" ⊗ v "b"))
      (given 14 1 "let __x0 = a * b;\n__x0\nsin(__x0)\n-c * __x0\n")
  fusing_switches_of_other_arm_counts :
      Both (Op Select (v "i" ◂ v "a" ◂ nil) ∷ Op Select (v "i" ◂ v "a" ◂ v "b" ◂ nil) ∷ [])
      (given 9 0 "select(i, a)\nselect(i, a, b)\n")
      (given 19 0 "let __m1 = match i { 0 => a, 1 => b, _ => panic };\nlet __m0 = match i { 0 => a, _ => panic };\n__m0\n__m1\n")

pub misreadings : Misreadings
unfolding summary
misreadings =
    record {
      summing_select_arms = (refl, refl);
      a_default_without_cost = (refl, refl);
      the_dearest_branch_arm_alone = (refl, refl);
      savings_of_all_uses = (refl, refl);
      earlier_bindings_left_as_they_stand = (refl, refl);
      divisors_as_met = (refl, refl);
      divisors_of_equal_text_turned_round = (refl, refl);
      divisors_of_equal_text_by_tree = (refl, refl);
      a_divisor_of_one_arm_bound_outside = (refl, refl);
      divisions_left_in_bindings = (refl, refl);
      recounting_divisors = (refl, refl);
      one_match_to_a_product = (refl, refl);
      minus_zero_as_a_constant = (refl, refl);
      refusing_zero = (refl, refl);
      no_number_as_a_constant = (refl, refl);
      fusing_branch_with_select = (refl, refl);
      fusing_with_and_without_default = (refl, refl);
      keys_of_earlier_matches_left = (refl, refl);
      switches_of_the_list_given = (refl, refl);
      ranking_by_text_before_depth = (refl, refl);
      ranking_by_text_before_depth_in_sums = (refl, refl);
      taking_the_oldest_first = (refl, refl);
      summing_the_default = (refl, refl);
      the_dearest_without_the_default = (refl, refl);
      a_match_that_none_reads_left_out = (refl, refl);
      two_matches_to_a_product = (refl, refl);
      a_count_without_arms = (refl, refl);
      refusing_a_switch_in_a_bound_divisor = (refl, refl);
      ties_by_the_last_met = (refl, refl);
      ties_by_the_first_met_outside_arms = (refl, refl);
      divisors_of_equal_text_by_node = (refl, refl);
      divisors_of_equal_text_met_outside_arms = (refl, refl);
      divisors_of_equal_text_met_in_bindings_first = (refl, refl);
      removing_the_last_equal_factor = (refl, refl);
      factors_from_the_right = (refl, refl);
      a_sign_lost_or_kept_as_a_constant = (refl, refl);
      fusing_switches_of_other_arm_counts = (refl, refl);
    }
