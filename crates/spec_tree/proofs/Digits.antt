-- How many digits a number's text has, and how many bytes a run of numbers has. Assumes nothing.
use Prim.Native.Nat.{ℕ, zero, suc, ◌+◌, ◌*◌, ◌/◌, ◌%◌, ◌^◌, ◌≤◌, ◌<◌}
use mathlib.Core.Path.{◌≡◌, refl, ap, ◌∙◌}
use mathlib.Core.Bool.{Bool, true, false, cond}
use mathlib.Core.List.{List, [], ◌∷◌, ◌++◌}
use native.Mathlib.Omega.{arith}
use borrow.Author.Tests.{ltb-true, ltb-false, lt-ltb, le-ltb, ne_eqb}
use lib.Dec.{ltb, eqb}
use lib.IntN.{pos, neg_ℤ}
use lib.ListN.{length, take, get_or, length-append}
use lib.Seq.{take-suc}
use Rattle.spec_tree.specs.Bytes.{digits, decimal, integer}
use Rattle.spec_tree.specs.Records.{numbers_text}
use Rattle.spec_tree.specs.Layout.{signed}

-- more fuel than the number gives the same digits
pub same_digits : (f g n : ℕ) → n ≤ f → n ≤ g → digits f n ≡ digits g n
unfolding digits
same_digits zero zero n h k = refl
same_digits zero (suc g) n h k = let z : n ≡ 0 = omega arith in rw z
same_digits (suc f) zero n h k = let z : n ≡ 0 = omega arith in rw z
same_digits (suc f) (suc g) n h k = go (ltb n 10) refl (λ l. same_digits f g (n / 10) (omega arith) (omega arith))
  where
    go : (b : Bool) → ltb n 10 ≡ b → (10 ≤ n → digits f (n / 10) ≡ digits g (n / 10))
        → ◌≡◌ {A = List ℕ} (elim b [ true ↦ (48 + n) ∷ [] | false ↦ digits f (n / 10) ++ ((48 + n % 10) ∷ []) ]) (elim b [ true ↦ (48 + n) ∷ [] | false ↦ digits g (n / 10) ++ ((48 + n % 10) ∷ []) ])
    go true e i = refl
    go false e i = ap (λ (l : List ℕ). l ++ ((48 + n % 10) ∷ [])) (i (ltb-false n 10 e))

-- by the test for one digit, whichever way it goes
pub by_test : (n : ℕ) (l : List ℕ) (b : Bool) → ltb n 10 ≡ b
    → ◌≡◌ {A = List ℕ} (elim (ltb n 10) [ true ↦ (48 + n) ∷ [] | false ↦ l ]) (elim b [ true ↦ (48 + n) ∷ [] | false ↦ l ])
by_test n l b e = ap (λ (b : Bool). elim b as (λ _. List ℕ) [ true ↦ (48 + n) ∷ [] | false ↦ l ]) e

pub one_digit : (n : ℕ) → n < 10 → length (decimal n) ≡ 1
unfolding decimal digits
one_digit zero h = refl
one_digit (suc n) h = ap length (by_test (suc n) (digits n (suc n / 10) ++ ((48 + suc n % 10) ∷ [])) true (lt-ltb (suc n) 10 h))

pub more_digits : (n : ℕ) → 10 ≤ n → length (decimal n) ≡ suc (length (decimal (n / 10)))
unfolding decimal digits
more_digits zero h = absurd (omega arith)
more_digits (suc n) h =
    ap length (by_test (suc n) (digits n (suc n / 10) ++ ((48 + suc n % 10) ∷ [])) false (le-ltb (suc n) 10 h))
    ∙ (length-append (digits n (suc n / 10)) ((48 + suc n % 10) ∷ [])
    ∙ (let e = same_digits n (suc n / 10) (suc n / 10) (omega arith) (omega arith) in omega (arith, ap length e)))

pub digits_pos : (n : ℕ) → 1 ≤ length (decimal n)
digits_pos n = go (ltb n 10) refl
  where
    go : (b : Bool) → ltb n 10 ≡ b → 1 ≤ length (decimal n)
    go true e = omega (arith, one_digit n (ltb-true n 10 e))
    go false e = omega (arith, more_digits n (ltb-false n 10 e))

abbrev ten_to : ℕ → ℕ
ten_to zero = 1
ten_to (suc k) = 10 * ten_to k

-- a number below 10^k has at most k digits
digits_most : (k n : ℕ) → n < ten_to (suc k) → length (decimal n) ≤ suc k
digits_most zero n h = omega (arith, one_digit n (omega arith))
digits_most (suc k) n h = go (ltb n 10) refl (λ l. digits_most k (n / 10) (omega arith))
  where
    go : (b : Bool) → ltb n 10 ≡ b → (10 ≤ n → length (decimal (n / 10)) ≤ suc k) → length (decimal n) ≤ suc (suc k)
    go true e i = omega (arith, one_digit n (ltb-true n 10 e))
    go false e i = let l = ltb-false n 10 e in omega (arith, more_digits n l, i l)

pub digits_20 : (n : ℕ) → n < 2 ^ 64 → length (decimal n) ≤ 20
digits_20 n h = digits_most 19 n (omega arith)

-- ---- runs of numbers

pub numbers_cons : (n : ℕ) (l : List ℕ) → length (numbers_text (n ∷ l)) ≡ suc (length (decimal n)) + length (numbers_text l)
unfolding numbers_text
numbers_cons n l = rw length-append (omega arith)

pub numbers_append : (a b : List ℕ) → length (numbers_text (a ++ b)) ≡ length (numbers_text a) + length (numbers_text b)
numbers_append [] b = unfold numbers_text in omega arith
numbers_append (n ∷ a) b = omega (arith, numbers_cons n (a ++ b), numbers_cons n a, numbers_append a b)

pub numbers_none : length (numbers_text []) ≡ 0
unfolding numbers_text
numbers_none = refl

pub numbers_step : (s : List ℕ) (i : ℕ) → i < length s → length (numbers_text (take (suc i) s)) ≡ length (numbers_text (take i s)) + suc (length (decimal (get_or s i 0)))
numbers_step s i h =
    ap (λ (l : List ℕ). length (numbers_text l)) (take-suc s i 0 h)
    ∙ (numbers_append (take i s) (get_or s i 0 ∷ []) ∙ omega (arith, numbers_cons (get_or s i 0) [], numbers_none))

-- ---- constants by sign and size

pub plain_bytes : (s n : ℕ) → s ≡ 0 → length (integer (signed s n)) ≡ length (decimal n)
unfolding integer signed
plain_bytes s n e = rw e

pub zero_bytes : (s n : ℕ) → n ≡ 0 → length (integer (signed s n)) ≡ 1
unfolding signed integer decimal digits
zero_bytes s n e = rw e (go (eqb s 0))
  where
    go : (b : Bool) → length (integer (cond b (pos 0) (neg_ℤ (pos 0)))) ≡ 1
    go true = refl
    go false = refl

pub minus_bytes : (s n : ℕ) → (s ≡ 0 → ⊥) → (n ≡ 0 → ⊥) → length (integer (signed s n)) ≡ suc (length (decimal n))
unfolding integer signed
minus_bytes s zero h k = absurd (k refl)
minus_bytes s (suc n) h k = rw (ne_eqb s 0 h)
