-- A coefficient worked out by f64 products is never a fraction, so that refusal 10 has the cases of 01, "Rewriting", and no other: NaN, an infinity, minus zero,
-- and 10^15 or more in magnitude. Rounding keeps a whole number whole: up to 2^53 it is exact, and beyond every float is whole. Assumes nothing.
use Rattle.std.proofs.Common.{◌≡◌, ℕ, zero, suc, ◌+◌, ◌-◌, ◌*◌, ◌/◌, ◌%◌, ◌^◌, ◌<◌, ◌≤◌, Bool, true, false, cond, not, ◌&&◌, T, eqb, ltb, leb, ◌⊎◌, [], ◌∷◌, ℤ, pos, negsuc, sym, refl, ap, ◌∙◌, subst, ap₂, inl, inr, le_trans, le_of_eq, lt_of_lt_of_le, mul-le-mul_right, zero-lt-suc, mul_assoc, mul-pos, div-add-mod', le-div_iff_mul-le, mul-one, mul_right_comm, not-le_of_lt, mul_left_comm, arith, leb→le, pow_pos, pow-add, ltb-false, le-ltb, eq-eqb}
use native.Mathlib.Nat.{mul-mod_left, eq_of_mul-eq-mul_right, pow-le-pow_right}
use lib.Dec.{nleb→lt}
use lib.Ieee as Ieee
use lib.Ieee.{Float, nan, inf, fin, binary64, up, down, unlike, round, units, odd}
use lib.Ieee.Digits.{size-lt}
use lib.Ieee.Exact.{HasValue, odd_sign}
use lib.Ieee.Back.{round_whole}
use lib.Ieee.Fits.{down_pos, round_is}
use lib.Ieee.Scale.{round_same}
use Rattle.spec_tree.specs.Outcome.{Refusal, Outcome, refused, by}
use Rattle.spec_tree.specs.Tree.{Tree, Forest, Sym, Const, Op, nil, ◌◂◌}
use Rattle.spec_tree.specs.Kinds.{Neg, Mul}
use Rattle.spec_rewrite.specs.Rewrite.{Factors, one, flatten_mul_factors, flatten_operands, flatten_after, times, negated, constant_of, whole_number}

-- no fraction
abbrev pub Whole : Float → Type 0
Whole nan = Unit {0}
Whole (inf s) = Unit {0}
Whole (fin s m e) = m * up e % down e ≡ 0

-- ---- rounding a whole number

size_above : (z l : ℕ) → 2 ^ l ≤ z → l < Ieee.size z
size_above z l h = go (leb (Ieee.size z) l) refl
  where
    go : (b : Bool) → leb (Ieee.size z) l ≡ b → l < Ieee.size z
    go true e =
        let g = leb→le (Ieee.size z) l (subst T (sym e) tt) in
        absurd (not-le_of_lt (lt_of_lt_of_le (size-lt z) (pow-le-pow_right (zero-lt-suc 1) g)) h)
    go false e = nleb→lt (Ieee.size z) l (subst (λ (b : Bool). T (not b)) (sym e) tt)

cancelled : (X D q k l : ℕ) → l ≤ k → X * 2 ^ l ≡ q * 2 ^ k * D → X % D ≡ 0
cancelled X D q k l h e =
    let s : k ≡ k - l + l = omega arith in
    let p : q * 2 ^ k * D ≡ q * 2 ^ (k - l) * D * 2 ^ l =
    ap (λ (j : ℕ). q * 2 ^ j * D) s ∙ (ap (λ (j : ℕ). q * j * D) (pow-add 2 (k - l) l)
    ∙ (ap (λ (j : ℕ). j * D) (sym (mul_assoc q (2 ^ (k - l)) (2 ^ l))) ∙ mul_right_comm (q * 2 ^ (k - l)) (2 ^ l) D)) in
    let x : X ≡ q * 2 ^ (k - l) * D = eq_of_mul-eq-mul_right (2 ^ l) (pow_pos l) X (q * 2 ^ (k - l) * D) (e ∙ p) in
    ap (λ (j : ℕ). j % D) x ∙ mul-mod_left (q * 2 ^ (k - l)) D

value_whole : (x : Float) (s : Bool) (q k l : ℕ) → l ≤ k → HasValue x s (q * 2 ^ k) (2 ^ l) → Whole x
value_whole nan s q k l h v = tt
value_whole (inf t) s q k l h v = tt
value_whole (fin t m e) s q k l h v = cancelled (m * up e) (down e) q k l h v.1

units_whole : (s : Bool) (q k : ℕ) → 1074 ≤ k → Whole (units binary64 s q k)
unfolding units
units_whole s q k h = go (ltb (q * 2 ^ k) _)
  where
    go : (b : Bool) → Whole (cond b (odd 54 s q k 1074) (inf s))
    go true = value_whole (odd 54 s q k 1074) s q k 1074 h (odd_sign 54 s q k 1074)
    go false = tt

exact_whole : (x : Float) (s : Bool) (n : ℕ) → HasValue x s n 1 → Whole x
exact_whole nan s n v = tt
exact_whole (inf t) s n v = tt
exact_whole (fin t m e) s n v = ap (λ (j : ℕ). j % down e) (sym (mul-one (m * up e)) ∙ v.1) ∙ mul-mod_left n (down e)

large : (n l p : ℕ) → 2 ^ p ≤ n → 2 ^ (p + l) ≤ n * 2 ^ l / 1
large n l p h =
    let e : 2 ^ (p + l) * 1 ≡ 2 ^ p * 2 ^ l = mul-one (2 ^ (p + l)) ∙ pow-add 2 p l in
    (le-div_iff_mul-le (zero-lt-suc 0)).1 (le_trans (le_of_eq e) (mul-le-mul_right (2 ^ l) h))

rounded_whole : (s : Bool) (n : ℕ) → Whole (round binary64 s n 1)
rounded_whole s n = go (leb n (2 ^ 53)) refl
  where
    go : (b : Bool) → leb n (2 ^ 53) ≡ b → Whole (round binary64 s n 1)
    go true e = exact_whole (round binary64 s n 1) s n (round_whole binary64 s n (leb→le n (2 ^ 53) (subst T (sym e) tt)))
    go false e =
        let h : 2 ^ 53 < n = nleb→lt n (2 ^ 53) (subst (λ (b : Bool). T (not b)) (sym e) tt) in
        let z : 53 + 1074 < Ieee.size (n * 2 ^ 1074 / 1) = size_above (n * 2 ^ 1074 / 1) (53 + 1074) (large n 1074 53 (omega arith)) in
        subst Whole (sym (round_is binary64 s n 1)) (units_whole s _ (Ieee.size (n * 2 ^ 1074 / 1) - 53) (omega arith))

-- ---- the operations

parts : (X D : ℕ) → X % D ≡ 0 → X ≡ X / D * D
parts X D e = let d : X / D * D + X % D ≡ X = div-add-mod' X D in omega arith

cross : (X Y D E : ℕ) → X % D ≡ 0 → Y % E ≡ 0 → X * Y * 1 ≡ X / D * (Y / E) * (D * E)
cross X Y D E h k =
    mul-one (X * Y) ∙ (ap₂ ◌*◌ (parts X D h) (parts Y E k)
    ∙ (mul_assoc (X / D) D (Y / E * E) ∙ (ap (λ (n : ℕ). X / D * n) (mul_left_comm D (Y / E) E) ∙ sym (mul_assoc (X / D) (Y / E) (D * E)))))

either : (b s : Bool) → Whole (cond b nan (inf s))
either true s = tt
either false s = tt

whole_mul : (x y : Float) → Whole x → Whole y → Whole (Ieee.mul binary64 x y)
unfolding Ieee.mul
whole_mul nan y g h = tt
whole_mul (inf s) nan g h = tt
whole_mul (inf s) (inf t) g h = tt
whole_mul (inf s) (fin t n d) g h = either (eqb n 0) (unlike s t)
whole_mul (fin s m e) nan g h = tt
whole_mul (fin s m e) (inf t) g h = either (eqb m 0) (unlike s t)
whole_mul (fin s m e) (fin t n d) g h =
    let a = m * up e / down e * (n * up d / down d) in
    subst Whole
    (sym (round_same binary64 (unlike s t) (m * up e * (n * up d)) (down e * down d) a 1 (mul-pos (down_pos e) (down_pos d)) (zero-lt-suc 0) (cross (m * up e) (n * up d) (down e) (down d) g h)))
    (rounded_whole (unlike s t) a)

whole_neg : (x : Float) → Whole x → Whole (Ieee.neg x)
unfolding Ieee.neg
whole_neg nan h = tt
whole_neg (inf s) h = tt
whole_neg (fin s m e) h = h

whole_int : (z : ℤ) → Whole (Ieee.of_int binary64 z)
unfolding Ieee.of_int
whole_int (pos n) = rounded_whole false n
whole_int (negsuc n) = rounded_whole true (suc n)

whole_one : Whole one
unfolding one
whole_one = refl

-- ---- flattening

three :
    (b c : Bool) (F G H : Factors) → Whole F.coefficient → Whole G.coefficient → Whole H.coefficient
    → Whole (elim b as (λ _. Factors) [ true ↦ F | false ↦ elim c [ true ↦ G | false ↦ H ] ]).coefficient
three true c F G H f g h = f
three false true F G H f g h = g
three false false F G H f g h = h

mutual
  unfolding flatten_mul_factors negated times

  pub whole_coefficient : (t : Tree) → Whole (flatten_mul_factors t).coefficient
  whole_coefficient (Sym n) = whole_one
  whole_coefficient (Const c) = whole_int c
  whole_coefficient (Op k f) =
      three (eqb k Mul) (eqb k Neg) (flatten_operands f) (negated (flatten_operands f)) (record { coefficient = one; factors = Op k f ∷ [] })
      (whole_operands f) (whole_neg (flatten_operands f).coefficient (whole_operands f)) whole_one

  whole_operands : (f : Forest) → Whole (flatten_operands f).coefficient
  whole_operands nil = whole_one
  whole_operands (t ◂ f) = whole_after f (flatten_mul_factors t) (whole_coefficient t)

  whole_after : (f : Forest) (p : Factors) → Whole p.coefficient → Whole (flatten_after f p).coefficient
  whole_after nil p h = h
  whole_after (t ◂ f) p h =
      whole_after f (times p (flatten_mul_factors t)) (whole_mul p.coefficient (flatten_mul_factors t).coefficient h (whole_coefficient t))

-- ---- what is refused

-- NaN, an infinity, 10^15 and more in magnitude, minus zero
abbrev pub Outside : Float → Type 0
Outside nan = Unit {0}
Outside (inf s) = Unit {0}
Outside (fin s m e) = (10 ^ 15 * down e ≤ m * up e) ⊎ ((s ≡ true) × (m * up e / down e ≡ 0))

refused_number : (s : Bool) (n : ℕ) (r : Refusal) → whole_number s n ≡ refused r → (s ≡ true) × (n ≡ 0)
unfolding whole_number
refused_number false n r e = absurd (let q : ◌≡◌ {A = ℕ} 0 1 = cc in omega arith)
refused_number true zero r e = (refl, refl)
refused_number true (suc n) r e = absurd (let q : ◌≡◌ {A = ℕ} 0 1 = cc in omega arith)

outside : (x : Float) (r : Refusal) → Whole x → constant_of x ≡ refused r → Outside x
unfolding constant_of
outside nan r w e = tt
outside (inf s) r w e = tt
outside (fin s m e) r w h = go (ltb (m * up e / down e) (10 ^ 15)) refl
  where
    go : (b : Bool) → ltb (m * up e / down e) (10 ^ 15) ≡ b → Outside (fin s m e)
    go true p =
        inr (refused_number s (m * up e / down e) r
        (sym (ap₂ (λ (a b : Bool). elim (a && b) [ true ↦ whole_number s (m * up e / down e) | false ↦ refused (by 10) ]) (eq-eqb (m * up e % down e) 0 w) p) ∙ h))
    go false p = inl ((le-div_iff_mul-le (down_pos e)).0 (ltb-false (m * up e / down e) (10 ^ 15) p))

pub refused_outside : (t : Tree) (r : Refusal) → constant_of (flatten_mul_factors t).coefficient ≡ refused r → Outside (flatten_mul_factors t).coefficient
refused_outside t r e = outside (flatten_mul_factors t).coefficient r (whole_coefficient t) e

-- ---- and all of it is

no_number : (a : Bool) (s : Bool) (n : ℕ) → ◌≡◌ {A = Outcome ℤ} (elim (a && false) [ true ↦ whole_number s n | false ↦ refused (by 10) ]) (refused (by 10))
no_number true s n = refl
no_number false s n = refl

minus_zero : (a : Bool) → ◌≡◌ {A = Outcome ℤ} (elim (a && ltb 0 (10 ^ 15)) [ true ↦ whole_number true 0 | false ↦ refused (by 10) ]) (refused (by 10))
unfolding whole_number
minus_zero true = refl
minus_zero false = refl

pub outside_refused : (x : Float) → Outside x → constant_of x ≡ refused (by 10)
unfolding constant_of
outside_refused nan o = refl
outside_refused (inf s) o = refl
outside_refused (fin s m e) (inl h) =
    let a = eqb (m * up e % down e) 0 in
    let n = m * up e / down e in
    ap (λ (b : Bool). elim (a && b) [ true ↦ whole_number s n | false ↦ refused (by 10) ]) (le-ltb n (10 ^ 15) ((le-div_iff_mul-le (down_pos e)).1 h)) ∙ no_number a s n
outside_refused (fin s m e) (inr (p, q)) =
    let a = eqb (m * up e % down e) 0 in
    ap₂ (λ (t : Bool) (n : ℕ). elim (a && ltb n (10 ^ 15)) [ true ↦ whole_number t n | false ↦ refused (by 10) ]) p q ∙ minus_zero a
