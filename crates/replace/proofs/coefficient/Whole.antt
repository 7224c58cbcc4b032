-- Floats and the numbers below 10^15: what the tests of `size_of` and `constant_of` show. Assumes nothing.
use Rattle.std.proofs.Common.{◌≡◌, ℕ, zero, suc, ◌+◌, ◌-◌, ◌*◌, ◌/◌, ◌^◌, ◌<◌, ◌≤◌, min, Bool, true, false, cond, not, T, ltb, pos, sym, refl, ap, ◌∙◌, subst, true≢false, lt_of_lt_of_le, mul-le-mul_right, div-lt_iff_lt-mul, mul-lt-mul_of_pos_right, mul-pos, zero-mul, mul-one, arith, lit<, lit≤, le→leb, ltb→lt, lt→ltb}
use lib.Dec.{not_T}
use lib.Ieee.{Float, nan, inf, fin, binary64, prec, emax, low, up, down, units, odd, neg, lt, fits, is_nan, of_int, to_unsigned, in_float, to_bits, of_bits}
use lib.Ieee.Fits.{down_pos, round_is}
use lib.Ieee.Exact.{HasValue}
use lib.Ieee.Back.{round_whole, unsigned_back}
use lib.Ieee.Bits.{of_bits-to_bits, is_false, is_true}
use Rattle.replace.specs.coefficient.Answers.{float}

-- 10^15 and -1, as the literals' bits give them
abbrev pub limit : Float
limit = fin false 30517578125 (pos 15)

abbrev pub minus_one : Float
minus_one = fin true 1 (pos 0)

below_word : (a d : ℕ) → 0 < d → a < 10 ^ 15 * d → a < 2 ^ 64 * d
below_word a d D h = lt_of_lt_of_le h (mul-le-mul_right d (lit≤ tt))

pub to_word : (a : Float) → T (lt a limit) → T (lt a (fin false 1 (pos 64)))
unfolding lt
to_word nan h = h
to_word (inf s) h = h
to_word (fin false m e) h = lt→ltb (m * up e * 1) (2 ^ 64 * down e) (below_word (m * up e * 1) (down e) (down_pos e) (ltb→lt (m * up e * 1) (10 ^ 15 * down e) h))
to_word (fin true m e) h = lt→ltb 0 (m * up e * 1 + 2 ^ 64 * down e) (lt_of_lt_of_le (mul-pos (lit< {m = 0} {n = 2 ^ 64} tt) (down_pos e)) (more (m * up e * 1) (2 ^ 64 * down e)))
  where
    more : (x y : ℕ) → y ≤ x + y
    more x y = omega arith

pub no_nan : (a : Float) → T (lt a limit) → T (not (is_nan a))
unfolding lt is_nan
no_nan nan h = h
no_nan (inf s) h = tt
no_nan (fin s m e) h = tt

odd_no_nan : (d : ℕ) (s : Bool) (q k l : ℕ) → T (not (is_nan (odd d s q k l)))
unfolding odd is_nan
odd_no_nan d s zero k l = tt
odd_no_nan d s (suc q) k l = tt

units_no_nan : (s : Bool) (q k : ℕ) → T (not (is_nan (units binary64 s q k)))
unfolding units is_nan
units_no_nan s q k = go (ltb (q * 2 ^ k) (2 ^ (low binary64 + suc (emax binary64))))
  where
    go : (b : Bool) → T (not (is_nan (cond b (odd (suc (prec binary64)) s q k (low binary64)) (inf s))))
    go true = odd_no_nan (suc (prec binary64)) s q k (low binary64)
    go false = tt

pub float_no_nan : (s : Bool) (n : ℕ) → T (not (is_nan (float s n)))
float_no_nan s n = subst (λ (x : Float). T (not (is_nan x))) (sym (round_is binary64 s n 1)) (units_no_nan s _ _)

-- the whole part of what is below 10^15 is too
pub cut_below : (a : Float) → T (lt a limit) → T (lt minus_one a) → to_unsigned 64 a < 10 ^ 15
unfolding lt to_unsigned
cut_below nan h k = absurd h
cut_below (inf true) h k = absurd k
cut_below (inf false) h k = absurd h
cut_below (fin true m e) h k = lit< tt
cut_below (fin false m e) h k =
    capped (m * up e / down e) ((div-lt_iff_lt-mul (down_pos e)).1 (subst (λ (z : ℕ). z < 10 ^ 15 * down e) (mul-one (m * up e)) (ltb→lt (m * up e * 1) (10 ^ 15 * down e) h)))
  where
    capped : (z : ℕ) → z < 10 ^ 15 → min z (2 ^ 64 - 1) < 10 ^ 15
    capped z l = omega arith

-- the same bits, the same float
pub same_bits : (x y : Float) → T (fits binary64 x) → T (fits binary64 y) → to_bits binary64 x ≡ to_bits binary64 y → x ≡ y
same_bits x y p q h = sym (of_bits-to_bits binary64 x p) ∙ ap (of_bits binary64) h ∙ of_bits-to_bits binary64 y q

-- ---- the float of a number below 10^15 passes the tests
below_prec : (n : ℕ) → n < 10 ^ 15 → n ≤ 2 ^ prec binary64
below_prec n h = omega arith

value_below : (x : Float) (n : ℕ) → n < 10 ^ 15 → HasValue x false n 1 → T (lt x limit) × T (lt minus_one x)
unfolding lt
value_below nan n l h = absurd h
value_below (inf s) n l h = absurd h
value_below (fin true m e) n l h = absurd (true≢false h.0)
value_below (fin false m e) n l h = (
  lt→ltb (m * up e * 1) (10 ^ 15 * down e) (subst (λ (z : ℕ). z < 10 ^ 15 * down e) (sym h.1) (mul-lt-mul_of_pos_right l (down_pos e))),
  lt→ltb 0 (1 * down e + m * up e * 1) (lt_of_lt_of_le (mul-pos (lit< {m = 0} {n = 1} tt) (down_pos e)) (more (1 * down e) (m * up e * 1))),
)
  where
    more : (x y : ℕ) → x ≤ x + y
    more x y = omega arith

pub float_below : (n : ℕ) → n < 10 ^ 15 → T (lt (float false n) limit) × T (lt minus_one (float false n))
float_below n l = value_below (float false n) n l (round_whole binary64 false n (below_prec n l))

pub float_cut : (n : ℕ) → n < 10 ^ 15 → to_unsigned 64 (float false n) ≡ n
unfolding of_int in_float
float_cut n l = (unsigned_back binary64 64 n (le→leb n (2 ^ 53) (below_prec n l)) (word n l)).1
  where
    word : (m : ℕ) → m < 10 ^ 15 → m < 2 ^ 64
    word m h = omega arith

-- ---- the sign
neg_odd : (d q k l : ℕ) → neg (odd d false q k l) ≡ odd d true q k l
unfolding odd neg
neg_odd d zero k l = refl
neg_odd d (suc q) k l = refl

neg_units : (q k : ℕ) → neg (units binary64 false q k) ≡ units binary64 true q k
unfolding units
neg_units q k = go (ltb (q * 2 ^ k) (2 ^ (low binary64 + suc (emax binary64))))
  where
    go : (b : Bool) → neg (cond b (odd (suc (prec binary64)) false q k (low binary64)) (inf false)) ≡ cond b (odd (suc (prec binary64)) true q k (low binary64)) (inf true)
    go true = neg_odd (suc (prec binary64)) q k (low binary64)
    go false = unfold neg in refl

pub neg_float : (n : ℕ) → neg (float false n) ≡ float true n
neg_float n = ap neg (round_is binary64 false n 1) ∙ neg_units _ _ ∙ sym (round_is binary64 true n 1)

pub neg_neg : (x : Float) → neg (neg x) ≡ x
unfolding neg
neg_neg nan = refl
neg_neg (inf true) = refl
neg_neg (inf false) = refl
neg_neg (fin true m e) = refl
neg_neg (fin false m e) = refl

-- ---- the sign test, x < 0
abbrev pub plus_zero : Float
plus_zero = fin false 0 (pos 0)

not_below_zero : (a d : ℕ) → ltb (a * 1) (0 * d) ≡ false
not_below_zero a d = is_false (ltb (a * 1) (0 * d)) (not_T (ltb (a * 1) (0 * d)) (λ t. never (a * 1) (subst (λ (z : ℕ). a * 1 < z) (zero-mul d) (ltb→lt (a * 1) (0 * d) t))))
  where
    never : (z : ℕ) → z < 0 → ⊥
    never z h = omega arith

value_not_below : (x : Float) (n : ℕ) → HasValue x false n 1 → lt x plus_zero ≡ false
unfolding lt
value_not_below nan n h = absurd h
value_not_below (inf s) n h = absurd h
value_not_below (fin true m e) n h = absurd (true≢false h.0)
value_not_below (fin false m e) n h = not_below_zero (m * up e) (down e)

value_is_below : (x : Float) (n : ℕ) → 0 < n → HasValue x true n 1 → lt x plus_zero ≡ true
unfolding lt
value_is_below nan n p h = absurd h
value_is_below (inf s) n p h = absurd h
value_is_below (fin false m e) n p h = absurd (true≢false (sym h.0))
value_is_below (fin true m e) n p h =
    is_true (ltb 0 (m * up e * 1 + 0 * down e)) (lt→ltb 0 (m * up e * 1 + 0 * down e) (lt_of_lt_of_le (subst (λ (z : ℕ). 0 < z) (sym h.1) (mul-pos p (down_pos e))) (more (m * up e * 1) (0 * down e))))
  where
    more : (x y : ℕ) → x ≤ x + y
    more x y = omega arith

zero_not_below : (x : Float) → HasValue x true 0 1 → lt x plus_zero ≡ false
unfolding lt
zero_not_below nan h = absurd h
zero_not_below (inf s) h = absurd h
zero_not_below (fin false m e) h = absurd (true≢false (sym h.0))
zero_not_below (fin true m e) h = ap (λ (z : ℕ). ltb 0 z) ((λ i. h.1 i + zero-mul (down e) i) ∙ ap (λ (z : ℕ). z + 0) (zero-mul (down e)))

pub positive_not_below : (n : ℕ) → n < 10 ^ 15 → lt (float false n) plus_zero ≡ false
positive_not_below n l = value_not_below (float false n) n (round_whole binary64 false n (below_prec n l))

pub negative_below : (n : ℕ) → n < 10 ^ 15 → 0 < n → lt (float true n) plus_zero ≡ true
negative_below n l p = value_is_below (float true n) n p (round_whole binary64 true n (below_prec n l))

pub minus_zero : (n : ℕ) → n ≡ 0 → lt (float true n) plus_zero ≡ false
minus_zero n z = ap (λ (k : ℕ). lt (float true k) plus_zero) z ∙ zero_not_below (float true 0) (round_whole binary64 true 0 (lit≤ tt))
