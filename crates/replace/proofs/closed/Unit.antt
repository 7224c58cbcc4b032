-- The coefficient of a product built from one is the integer it was built with, exactly. Assumes nothing.
use Rattle.std.proofs.Common.{◌≡◌, ℕ, zero, suc, ◌*◌, ◌/◌, ◌%◌, ◌^◌, ◌<◌, ◌≤◌, Bool, true, false, ◌&&◌, T, eqb, ltb, ℤ, pos, negsuc, sym, refl, ap, ◌∙◌, subst, ap₂, zero-lt-suc, mul-one, arith, lit≤, ltb→lt, lt→ltb}
use lib.Ieee as Ieee
use lib.Ieee.{Float, nan, inf, fin, binary64, up, down, unlike, round}
use lib.Ieee.Exact.{HasValue}
use lib.Ieee.Back.{round_whole}
use lib.Ieee.Scale.{round_same}
use lib.Ieee.Fits.{down_pos}
use Rattle.spec_tree.specs.Outcome.{Refusal, Outcome, ok, refused, by}
use Rattle.spec_tree.proofs.Logic.{and_right}
use Rattle.spec_tree.proofs.Tests.{is_true}
use Rattle.spec_rewrite.specs.Rewrite.{one, constant_of, whole_number}
use Rattle.spec_rewrite.proofs.Coefficient.{cut}

-- ---- the integers of coefficients

unfoldable pub magnitude : ℤ → ℕ
magnitude (pos n) = n
magnitude (negsuc n) = suc n

unfoldable pub minus : ℤ → Bool
minus (pos n) = false
minus (negsuc n) = true

abbrev pub Small : ℤ → Type 0
Small c = magnitude c < 10 ^ 15

whole_of : (c : ℤ) → whole_number (minus c) (magnitude c) ≡ ok c
unfolding whole_number minus magnitude
whole_of (pos n) = refl
whole_of (negsuc n) = refl

float_of : (c : ℤ) → Ieee.of_int binary64 c ≡ round binary64 (minus c) (magnitude c) 1
unfolding Ieee.of_int minus magnitude
float_of (pos n) = refl
float_of (negsuc n) = refl

-- ---- accepted means small

never : {A : Type 0} (i : Refusal) (z : A) → ◌≡◌ {A = Outcome A} (refused i) (ok z) → ⊥
never i z e = let q : ◌≡◌ {A = ℕ} 0 1 = cc in omega arith

whole_size : (s : Bool) (n : ℕ) (c : ℤ) → whole_number s n ≡ ok c → magnitude c ≡ n
unfolding whole_number magnitude
whole_size false n c e = (let q : c ≡ pos n = cc in ap magnitude q)
whole_size true zero c e = absurd (never (by 10) c e)
whole_size true (suc n) c e = (let q : c ≡ negsuc n = cc in ap magnitude q)

small_step : (b : Bool) (s : Bool) (n : ℕ) (c : ℤ) → (T b → n < 10 ^ 15) → elim b [ true ↦ whole_number s n | false ↦ refused (by 10) ] ≡ ok c → Small c
small_step true s n c h e = subst (λ (m : ℕ). m < 10 ^ 15) (sym (whole_size s n c e)) (h tt)
small_step false s n c h e = absurd (never (by 10) c e)

pub accepted_small : (x : Float) (c : ℤ) → constant_of x ≡ ok c → Small c
unfolding constant_of
accepted_small nan c h = absurd (never (by 10) c h)
accepted_small (inf s) c h = absurd (never (by 10) c h)
accepted_small (fin s m e) c h =
    small_step (eqb (m * up e % down e) 0 && ltb (m * up e / down e) (10 ^ 15)) s (m * up e / down e) c
    (λ t. ltb→lt (m * up e / down e) (10 ^ 15) (and_right (eqb (m * up e % down e) 0) _ t)) h

-- ---- a small integer's float is accepted as that integer

value_constant : (x : Float) (s : Bool) (n : ℕ) → n < 10 ^ 15 → HasValue x s n 1 → constant_of x ≡ whole_number s n
unfolding constant_of
value_constant nan s n h v = absurd v
value_constant (inf t) s n h v = absurd v
value_constant (fin t m e) s n h (p, q) =
    let c = cut (m * up e) (down e) n (down_pos e) q in
    ap₂ (λ (r d : ℕ). elim (eqb r 0 && ltb d (10 ^ 15)) as (λ _. Outcome ℤ) [ true ↦ whole_number t d | false ↦ refused (by 10) ]) c.1 c.0
    ∙ ap (λ (b : Bool). elim b as (λ _. Outcome ℤ) [ true ↦ whole_number t n | false ↦ refused (by 10) ]) (is_true (ltb n (10 ^ 15)) (lt→ltb n (10 ^ 15) h))
    ∙ ap (λ (b : Bool). whole_number b n) p

small_value : (c : ℤ) → Small c → HasValue (round binary64 (minus c) (magnitude c) 1) (minus c) (magnitude c) 1
small_value c h = round_whole binary64 (minus c) (magnitude c) (let l : 10 ^ 15 ≤ 2 ^ 53 = lit≤ tt in omega arith)

pub small_accepted : (c : ℤ) → Small c → constant_of (Ieee.of_int binary64 c) ≡ ok c
small_accepted c h =
    ap constant_of (float_of c) ∙ value_constant (round binary64 (minus c) (magnitude c) 1) (minus c) (magnitude c) h (small_value c h) ∙ whole_of c

-- ---- times one

unlike_false : (s : Bool) → unlike s false ≡ s
unlike_false true = refl
unlike_false false = refl

round_one : (x : Float) (s : Bool) (n : ℕ) → HasValue x s n 1 → Ieee.mul binary64 x one ≡ round binary64 s n 1
unfolding Ieee.mul one
round_one nan s n v = absurd v
round_one (inf t) s n v = absurd v
round_one (fin t m e) s n (p, q) =
    ap₂ (λ (b : Bool) (d : ℕ). round binary64 b (m * up e * 1) d) (unlike_false t ∙ p) (mul-one (down e))
    ∙ round_same binary64 s (m * up e * 1) (down e) n 1 (down_pos e) (zero-lt-suc 0) (mul-one (m * up e * 1) ∙ q)

pub times_one : (c : ℤ) → Small c → Ieee.mul binary64 (Ieee.of_int binary64 c) one ≡ Ieee.of_int binary64 c
times_one c h =
    ap (λ (x : Float). Ieee.mul binary64 x one) (float_of c)
    ∙ round_one (round binary64 (minus c) (magnitude c) 1) (minus c) (magnitude c) (small_value c h) ∙ sym (float_of c)

one_is : Ieee.of_int binary64 (pos 1) ≡ one
unfolding Ieee.of_int one
one_is = refl

pub one_small : Small (pos 1)
unfolding magnitude
one_small = lit≤ tt

pub one_times_one : Ieee.mul binary64 one one ≡ one
one_times_one = subst (λ (x : Float). Ieee.mul binary64 x one ≡ x) one_is (times_one (pos 1) one_small)

pub one_accepted : constant_of one ≡ ok (pos 1)
one_accepted = ap constant_of (sym one_is) ∙ small_accepted (pos 1) one_small
