-- The definitions over places and words at work. M1 of 01: (a + b) * c and sin(a + b), whose rows are a, b, a + b, c, the product and the sine. And a switch in a
-- result, with an arm that uses what stands outside. Assumes nothing.
use Prim.Native.Nat.{ℕ}
use mathlib.Core.Path.{◌≡◌, refl}
use mathlib.Core.Bool.{true, false}
use mathlib.Core.Option.{some}
use mathlib.Core.List.{List, [], ◌∷◌}
use Rattle.spec_tree.specs.Bytes.{bytes}
use Rattle.spec_tree.specs.Outcome.{ok}
use Rattle.spec_tree.specs.Rows.{Row, row_sym, row_op}
use Rattle.spec_tree.specs.Tokens.{name_in}
use Rattle.laws.specs.positions.Places.{best_place, outside_at, divisors_to_bind}
use Rattle.laws.specs.positions.Rounds.{rounds_words, reciprocals_words}

m1_rows : List Row
m1_rows = row_sym (bytes "a") ∷ row_sym (bytes "b") ∷ row_op 3 (0 ∷ 1 ∷ []) ∷ row_sym (bytes "c") ∷ row_op 5 (2 ∷ 3 ∷ []) ∷ row_op 8 (2 ∷ []) ∷ []

-- Mul, Add, a, b, c; Sin, Add, a, b
m1_words : List ℕ
m1_words = 133 ∷ 131 ∷ 0 ∷ 192 ∷ 576 ∷ 72 ∷ 131 ∷ 0 ∷ 192 ∷ []

-- the first a + b is best
m1_best : best_place m1_words (name_in m1_rows) false ≡ some 1
unfolding best_place m1_words m1_rows name_in
m1_best = refl

-- and bound last: __x0 * c, sin(__x0), and a + b
m1_rounds : rounds_words (name_in m1_rows) 4 false 2 0 m1_words ≡ ok (133 ∷ 64 ∷ 576 ∷ 72 ∷ 64 ∷ 131 ∷ 0 ∷ 192 ∷ [])
unfolding rounds_words m1_words m1_rows name_in
m1_rounds = refl

-- select(i, i + i, i): the key at place 1 is outside, both arms inside
arm_words : List ℕ
arm_words = 219 ∷ 0 ∷ 131 ∷ 0 ∷ 0 ∷ 0 ∷ []

key_outside : outside_at arm_words true 1 ≡ true
unfolding outside_at arm_words
key_outside = refl

arm_inside : outside_at arm_words true 2 ≡ false
unfolding outside_at arm_words
arm_inside = refl

last_arm_inside : outside_at arm_words true 5 ≡ false
unfolding outside_at arm_words
last_arm_inside = refl

-- M5 of 01: p / 2, q / 2 with p in row 0 and q in row 2
m5_rows : List Row
m5_rows = row_sym (bytes "p") ∷ row_op 3 (0 ∷ 0 ∷ []) ∷ row_sym (bytes "q") ∷ []

m5_words : List ℕ
m5_words = 134 ∷ 0 ∷ 257 ∷ 134 ∷ 384 ∷ 257 ∷ []

-- the 2 at place 2 is the divisor to bind
m5_divisors : divisors_to_bind m5_words (name_in m5_rows) false ≡ 2 ∷ []
unfolding divisors_to_bind m5_words m5_rows name_in
m5_divisors = refl

-- p * __x0, q * __x0, and 1 / 2
m5_bound : reciprocals_words (name_in m5_rows) false 2 0 m5_words ≡ 133 ∷ 0 ∷ 64 ∷ 133 ∷ 384 ∷ 64 ∷ 134 ∷ 129 ∷ 257 ∷ []
unfolding reciprocals_words m5_words m5_rows name_in
m5_bound = refl
