-- A coefficient worked out by f64 products is the exact integer product wherever it is accepted, and 1 wherever it compares equal to 1:
-- the record `Exact` of `ReplaceValue`. Assumes nothing.
-- A product of whole numbers is either exact or has passed 2 ^ 53, and what has passed 2 ^ 53 stays there until it meets a zero.
use Prim.Native.Nat.{ℕ, zero, suc, ◌*◌, ◌/◌, ◌%◌, ◌^◌, ◌≤◌, ◌<◌}
use mathlib.Core.Path.{◌≡◌, refl, sym, ◌∙◌, ap, ap₂, subst}
use mathlib.Core.Logic.{◌⊎◌, inl, inr}
use mathlib.Core.Bool.{Bool, true, false, not, ◌&&◌, ◌||◌, cond, beq}
use mathlib.Core.List.{[], ◌∷◌}
use native.Mathlib.Nat.{mul_assoc, mul_left_comm, mul-one, one-mul, zero-mul, mul-zero, mul-pos, mul-le-mul, mul-le-mul_right, le_of_eq, le_trans, eq_of_mul-eq-mul_right, le-div_iff_mul-le, mul-div_cancel, mul-mod_left, zero-lt-suc}
use native.Mathlib.Omega.{arith}
use lib.IntN.{ℤ, pos, negsuc, neg_ℤ, neg_ℤ-neg_ℤ, ◌*ℤ◌, *ℤ-one}
use lib.IntN as Int
use lib.Dec.{T, eqb, ltb, leb, eqb→eq, ltb→lt, leb→le, nleb→lt, lit≤, lit<}
use lib.Ieee as Ieee
use lib.Ieee.{Float, nan, inf, fin, binary64, up, down, unlike, round, units, odd}
use lib.Ieee.Exact.{HasValue}
use lib.Ieee.Back.{round_whole}
use lib.Ieee.Scale.{round_same}
use lib.Ieee.Order.{round_mono, kept, drop}
use lib.Ieee.Fits.{down_pos, round_is}
use lib.Ieee.Positive.{above, above_of_le, positive_of_value, own_value, values_of_le}
use Rattle.spec_tree.specs.Outcome.{Refusal, Outcome, ok, refused, by}
use Rattle.spec_tree.specs.Tree.{Tree, Forest, Sym, Const, Op, nil, ◌◂◌}
use Rattle.spec_tree.specs.Kinds.{Neg, Mul}
use Rattle.spec_rewrite.specs.Rewrite.{Factors, one, flatten_mul_factors, flatten_operands, flatten_after, times, negated, constant_of, whole_number}
use Rattle.spec_rewrite.proofs.ReplaceValue.{exact, exact_operands, Exact}
use Rattle.spec_tree.proofs.Logic.{and_right, and_left}

-- ---- integers by sign and magnitude

signed : Bool → ℕ → ℤ
signed false n = pos n
signed true n = neg_ℤ (pos n)

signed_not : (s : Bool) (n : ℕ) → signed (not s) n ≡ neg_ℤ (signed s n)
unfolding signed
signed_not false n = refl
signed_not true n = sym (neg_ℤ-neg_ℤ (pos n))

neg_times_pos : (a b : ℕ) → neg_ℤ (pos a) *ℤ pos b ≡ neg_ℤ (pos (a * b))
neg_times_pos zero b = ap (λ (n : ℕ). pos n) (zero-mul b) ∙ sym (ap (λ (n : ℕ). neg_ℤ (pos n)) (zero-mul b))
neg_times_pos (suc a) b = refl

pos_times_neg : (a b : ℕ) → pos a *ℤ neg_ℤ (pos b) ≡ neg_ℤ (pos (a * b))
pos_times_neg a zero = ap (λ (n : ℕ). pos n) (mul-zero a) ∙ sym (ap (λ (n : ℕ). neg_ℤ (pos n)) (mul-zero a))
pos_times_neg a (suc b) = refl

neg_times_neg : (a b : ℕ) → neg_ℤ (pos a) *ℤ neg_ℤ (pos b) ≡ pos (a * b)
neg_times_neg zero zero = refl
neg_times_neg zero (suc b) = ap (λ (n : ℕ). neg_ℤ (pos n)) (zero-mul (suc b)) ∙ ap pos (sym (zero-mul (suc b)))
neg_times_neg (suc a) zero = ap (λ (n : ℕ). neg_ℤ (pos n)) (mul-zero (suc a)) ∙ ap pos (sym (mul-zero (suc a)))
neg_times_neg (suc a) (suc b) = refl

signed_mul : (s t : Bool) (a b : ℕ) → signed s a *ℤ signed t b ≡ signed (unlike s t) (a * b)
unfolding signed
signed_mul false false a b = refl
signed_mul false true a b = pos_times_neg a b
signed_mul true false a b = neg_times_pos a b
signed_mul true true a b = neg_times_neg a b

as_signed : (z : ℤ) → (s : Bool) × (n : ℕ) × (z ≡ signed s n)
unfolding signed
as_signed (pos n) = (false, n, refl)
as_signed (negsuc n) = (true, suc n, refl)

unlike_assoc : (s t u : Bool) → unlike (unlike s t) u ≡ unlike s (unlike t u)
unlike_assoc false false false = refl
unlike_assoc false false true = refl
unlike_assoc false true false = refl
unlike_assoc false true true = refl
unlike_assoc true false false = refl
unlike_assoc true false true = refl
unlike_assoc true true false = refl
unlike_assoc true true true = refl

pub *ℤ-assoc : (x y z : ℤ) → x *ℤ y *ℤ z ≡ x *ℤ (y *ℤ z)
*ℤ-assoc x y z = go (as_signed x) (as_signed y) (as_signed z)
  where
    go : (s : Bool) × (n : ℕ) × (x ≡ signed s n) → (s : Bool) × (n : ℕ) × (y ≡ signed s n) → (s : Bool) × (n : ℕ) × (z ≡ signed s n) → x *ℤ y *ℤ z ≡ x *ℤ (y *ℤ z)
    go p q r =
        let l : x *ℤ y ≡ signed (unlike p.0 q.0) (p.1 * q.1) = ap₂ ◌*ℤ◌ p.2 q.2 ∙ signed_mul p.0 q.0 p.1 q.1 in
        let m : y *ℤ z ≡ signed (unlike q.0 r.0) (q.1 * r.1) = ap₂ ◌*ℤ◌ q.2 r.2 ∙ signed_mul q.0 r.0 q.1 r.1 in
        ap₂ ◌*ℤ◌ l r.2 ∙ signed_mul (unlike p.0 q.0) r.0 (p.1 * q.1) r.1
        ∙ ap₂ signed (unlike_assoc p.0 q.0 r.0) (mul_assoc p.1 q.1 r.1)
        ∙ sym (ap₂ ◌*ℤ◌ p.2 m ∙ signed_mul p.0 (unlike q.0 r.0) p.1 (q.1 * r.1))

-- ---- exact, or lost

-- x is the integer z, zero with either sign
abbrev Good : Float → ℤ → Type 0
Good x z = (s : Bool) × (n : ℕ) × HasValue x s n 1 × (z ≡ signed s n)

-- NaN, an infinity, or 2 ^ 53 and more in magnitude
abbrev Lost : Float → Type 0
Lost nan = Unit {0}
Lost (inf s) = Unit {0}
Lost (fin s m e) = 2 ^ 53 * down e ≤ m * up e

abbrev Near : Float → ℤ → Type 0
Near x z = Good x z ⊎ Lost x

-- ---- rounding

units_neg : (q k : ℕ) → units binary64 true q k ≡ Ieee.neg (units binary64 false q k)
unfolding units odd Ieee.neg
units_neg q k = go (ltb (q * 2 ^ k) _) q
  where
    go : (b : Bool) (q : ℕ) → cond b (odd 54 true q k 1074) (inf true) ≡ Ieee.neg (cond b (odd 54 false q k 1074) (inf false))
    go true zero = refl
    go true (suc q) = refl
    go false q = refl

round_neg : (a b : ℕ) → round binary64 true a b ≡ Ieee.neg (round binary64 false a b)
unfolding round
round_neg a b =
    let q = kept 53 (a * 2 ^ 1074) b in
    let k = drop 53 (a * 2 ^ 1074) b in
    round_is binary64 true a b ∙ units_neg q k ∙ ap Ieee.neg (sym (round_is binary64 false a b))

lost_neg : (x : Float) → Lost x → Lost (Ieee.neg x)
unfolding Ieee.neg
lost_neg nan h = tt
lost_neg (inf s) h = tt
lost_neg (fin s m e) h = h

above_lost : (y : Float) → T (above y) → T (Ieee.le (round binary64 false (2 ^ 53) 1) y) → Lost y
above_lost nan t h = tt
above_lost (inf s) t h = tt
above_lost (fin true m e) t h = absurd t
above_lost (fin false m e) t h =
    let x = round binary64 false (2 ^ 53) 1 in
    let v : HasValue x false (2 ^ 53) 1 = round_whole binary64 false (2 ^ 53) (lit≤ tt) in
    subst (λ (k : ℕ). 2 ^ 53 * down e ≤ k) (mul-one (m * up e))
    (values_of_le x (fin false m e) (2 ^ 53) 1 (m * up e) (down e) (positive_of_value x (2 ^ 53) 1 v (lit< tt)) t v (own_value (fin false m e) t) h)

-- a fraction of 2 ^ 53 or more
round_lost_pos : (a b : ℕ) → 0 < b → 2 ^ 53 * b ≤ a → Lost (round binary64 false a b)
round_lost_pos a b B h =
    let x = round binary64 false (2 ^ 53) 1 in
    let v : HasValue x false (2 ^ 53) 1 = round_whole binary64 false (2 ^ 53) (lit≤ tt) in
    let l : T (Ieee.le x (round binary64 false a b)) = round_mono binary64 (2 ^ 53) 1 a b (zero-lt-suc 0) B (subst (λ (k : ℕ). 2 ^ 53 * b ≤ k) (sym (mul-one a)) h) in
    above_lost (round binary64 false a b) (above_of_le x (round binary64 false a b) (positive_of_value x (2 ^ 53) 1 v (lit< tt)) l) l

round_lost : (s : Bool) (a b : ℕ) → 0 < b → 2 ^ 53 * b ≤ a → Lost (round binary64 s a b)
round_lost false a b B h = round_lost_pos a b B h
round_lost true a b B h = subst Lost (sym (round_neg a b)) (lost_neg (round binary64 false a b) (round_lost_pos a b B h))

-- a whole number rounded: exact up to 2 ^ 53, and lost beyond
round_near : (s : Bool) (n : ℕ) → Near (round binary64 s n 1) (signed s n)
round_near s n = go (leb n (2 ^ 53)) refl
  where
    go : (b : Bool) → leb n (2 ^ 53) ≡ b → Near (round binary64 s n 1) (signed s n)
    go true e = inl (s, n, round_whole binary64 s n (leb→le n (2 ^ 53) (subst T (sym e) tt)), refl)
    go false e =
        let h = nleb→lt n (2 ^ 53) (subst (λ (b : Bool). T (not b)) (sym e) tt) in
        inr (round_lost s n 1 (zero-lt-suc 0) (omega arith))

-- ---- products

lost_times : (X Y p q : ℕ) → 2 ^ 53 * p ≤ X → q ≤ Y → 2 ^ 53 * (p * q) ≤ X * Y
lost_times X Y p q h k = subst (λ (n : ℕ). n ≤ X * Y) (mul_assoc (2 ^ 53) p q) (mul-le-mul h k)

times_lost : (X Y p q : ℕ) → p ≤ X → 2 ^ 53 * q ≤ Y → 2 ^ 53 * (p * q) ≤ X * Y
times_lost X Y p q h k = subst (λ (n : ℕ). n ≤ X * Y) (mul_left_comm p (2 ^ 53) q) (mul-le-mul h k)

-- a whole number that is not 0 is 1 or more
one_up : (Y b q : ℕ) → Y * 1 ≡ suc b * q → q ≤ Y
one_up Y b q h =
    le_trans (subst (λ (n : ℕ). n ≤ suc b * q) (one-mul q) (mul-le-mul_right q (omega arith))) (le_of_eq (sym h ∙ mul-one Y))

lost_one : (X p : ℕ) → 2 ^ 53 * p ≤ X → p ≤ X
lost_one X p h = le_trans (subst (λ (n : ℕ). n ≤ 2 ^ 53 * p) (one-mul p) (mul-le-mul_right p (lit≤ tt))) h

zero_signed : (s t : Bool) → signed s 0 ≡ signed t 0
unfolding signed
zero_signed false false = refl
zero_signed false true = refl
zero_signed true false = refl
zero_signed true true = refl

times_zero : (z : ℤ) (s t : Bool) → z *ℤ signed s 0 ≡ signed t 0
times_zero z s t =
    let p = as_signed z in
    ap (λ (y : ℤ). y *ℤ signed s 0) p.2 ∙ signed_mul p.0 s p.1 0 ∙ ap (signed (unlike p.0 s)) (mul-zero p.1) ∙ zero_signed (unlike p.0 s) t

zero_times : (z : ℤ) (s t : Bool) → signed s 0 *ℤ z ≡ signed t 0
zero_times z s t =
    let p = as_signed z in
    ap (λ (y : ℤ). signed s 0 *ℤ y) p.2 ∙ signed_mul s p.0 0 p.1 ∙ ap (signed (unlike s p.0)) (zero-mul p.1) ∙ zero_signed (unlike s p.0) t

-- a product that is 0
round_zero : (s : Bool) (N D : ℕ) (z : ℤ) → 0 < D → N ≡ 0 → z ≡ signed s 0 → Near (round binary64 s N D) z
round_zero s N D z h e q =
    subst (λ (x : Float). Near x z) (sym (round_same binary64 s N D 0 1 h (zero-lt-suc 0) (mul-one N ∙ e ∙ sym (zero-mul D))))
    (subst (Near (round binary64 s 0 1)) (sym q) (round_near s 0))

cross : (X Y a b p q : ℕ) → X * 1 ≡ a * p → Y * 1 ≡ b * q → X * Y * 1 ≡ a * b * (p * q)
cross X Y a b p q h k =
    mul-one (X * Y) ∙ ap₂ ◌*◌ (sym (mul-one X) ∙ h) (sym (mul-one Y) ∙ k)
    ∙ mul_assoc a p (b * q) ∙ ap (λ (n : ℕ). a * n) (mul_left_comm p b q) ∙ sym (mul_assoc a b (p * q))

module _ (s t : Bool) (m n : ℕ) (e d : ℤ) (u v : ℤ) where
  out : Float
  out = round binary64 (unlike s t) (m * up e * (n * up d)) (down e * down d)

  both_good : Good (fin s m e) u → Good (fin t n d) v → Near out (u *ℤ v)
  unfolding out
  both_good (a, b, (p, q), r) (c, f, (g, h), w) =
      subst (λ (x : Float). Near x (u *ℤ v))
      (sym (round_same binary64 (unlike s t) _ _ (b * f) 1 (mul-pos (down_pos e) (down_pos d)) (zero-lt-suc 0) (cross (m * up e) (n * up d) b f (down e) (down d) q h)))
      (subst (Near (round binary64 (unlike s t) (b * f) 1))
      (sym (ap₂ ◌*ℤ◌ r w ∙ signed_mul a c b f ∙ ap₂ (λ (x y : Bool). signed (unlike x y) (b * f)) (sym p) (sym g)))
      (round_near (unlike s t) (b * f)))

  first_lost : Lost (fin s m e) → Good (fin t n d) v → Near out (u *ℤ v)
  unfolding out
  first_lost l (c, zero, (g, h), w) =
      round_zero (unlike s t) _ _ (u *ℤ v) (mul-pos (down_pos e) (down_pos d))
      (ap (λ (k : ℕ). m * up e * k) (sym (mul-one (n * up d)) ∙ h ∙ zero-mul (down d)) ∙ mul-zero (m * up e))
      (ap (λ (z : ℤ). u *ℤ z) w ∙ times_zero u c (unlike s t))
  first_lost l (c, suc b, (g, h), w) =
      inr (round_lost (unlike s t) _ _ (mul-pos (down_pos e) (down_pos d)) (lost_times (m * up e) (n * up d) (down e) (down d) l (one_up (n * up d) b (down d) h)))

  second_lost : Good (fin s m e) u → Lost (fin t n d) → Near out (u *ℤ v)
  unfolding out
  second_lost (c, zero, (g, h), w) l =
      round_zero (unlike s t) _ _ (u *ℤ v) (mul-pos (down_pos e) (down_pos d))
      (ap (λ (k : ℕ). k * (n * up d)) (sym (mul-one (m * up e)) ∙ h ∙ zero-mul (down e)) ∙ zero-mul (n * up d))
      (ap (λ (z : ℤ). z *ℤ v) w ∙ zero_times v c (unlike s t))
  second_lost (c, suc b, (g, h), w) l =
      inr (round_lost (unlike s t) _ _ (mul-pos (down_pos e) (down_pos d)) (times_lost (m * up e) (n * up d) (down e) (down d) (one_up (m * up e) b (down e) h) l))

  both_lost : Lost (fin s m e) → Lost (fin t n d) → Near out (u *ℤ v)
  unfolding out
  both_lost l k =
      inr (round_lost (unlike s t) _ _ (mul-pos (down_pos e) (down_pos d)) (lost_times (m * up e) (n * up d) (down e) (down d) l (lost_one (n * up d) (down d) k)))

  finite_mul : Near (fin s m e) u → Near (fin t n d) v → Near out (u *ℤ v)
  finite_mul (inl g) (inl h) = both_good g h
  finite_mul (inl g) (inr h) = second_lost g h
  finite_mul (inr g) (inl h) = first_lost g h
  finite_mul (inr g) (inr h) = both_lost g h

either_lost : (b : Bool) (s : Bool) → Lost (cond b nan (inf s))
either_lost true s = tt
either_lost false s = tt

near_mul : (x y : Float) (u v : ℤ) → Near x u → Near y v → Near (Ieee.mul binary64 x y) (u *ℤ v)
unfolding Ieee.mul out
near_mul nan y u v g h = inr tt
near_mul (inf s) nan u v g h = inr tt
near_mul (inf s) (inf t) u v g h = inr tt
near_mul (inf s) (fin t n d) u v g h = inr (either_lost (eqb n 0) (unlike s t))
near_mul (fin s m e) nan u v g h = inr tt
near_mul (fin s m e) (inf t) u v g h = inr (either_lost (eqb m 0) (unlike s t))
near_mul (fin s m e) (fin t n d) u v g h = finite_mul s t m n e d u v g h

-- ---- minus, and a constant

near_neg : (x : Float) (z : ℤ) → Near x z → Near (Ieee.neg x) (neg_ℤ z)
unfolding Ieee.neg
near_neg nan z g = inr tt
near_neg (inf s) z g = inr tt
near_neg (fin s m e) z (inl (t, n, (p, q), r)) = inl (not t, n, (ap not p, q), ap neg_ℤ r ∙ sym (signed_not t n))
near_neg (fin s m e) z (inr l) = inr l

near_int : (z : ℤ) → Near (Ieee.of_int binary64 z) z
unfolding Ieee.of_int signed
near_int (pos n) = round_near false n
near_int (negsuc n) = round_near true (suc n)

near_one : Near one (pos 1)
unfolding one signed
near_one = inl (false, 1, (refl, refl), refl)

-- ---- flattening

three_near :
    (b c : Bool) (F G H : Factors) (x y z : ℤ) → Near F.coefficient x → Near G.coefficient y → Near H.coefficient z
    → Near (elim b as (λ _. Factors) [ true ↦ F | false ↦ elim c [ true ↦ G | false ↦ H ] ]).coefficient
    (elim b [ true ↦ x | false ↦ elim c [ true ↦ y | false ↦ z ] ])
three_near true c F G H x y z f g h = f
three_near false true F G H x y z f g h = g
three_near false false F G H x y z f g h = h

mutual
  unfolding flatten_mul_factors exact negated times Int.one

  near : (t : Tree) → Near (flatten_mul_factors t).coefficient (exact t)
  near (Sym n) = near_one
  near (Const c) = near_int c
  near (Op k f) =
      three_near (eqb k Mul) (eqb k Neg) (flatten_operands f) (negated (flatten_operands f)) (record { coefficient = one; factors = Op k f ∷ [] })
      (exact_operands f) (neg_ℤ (exact_operands f)) (pos 1) (near_operands f) (near_neg (flatten_operands f).coefficient (exact_operands f) (near_operands f)) near_one

  near_operands : (f : Forest) → Near (flatten_operands f).coefficient (exact_operands f)
  near_operands nil = near_one
  near_operands (t ◂ f) = near_after f (flatten_mul_factors t) (exact t) (near t)

  near_after : (f : Forest) (p : Factors) (z : ℤ) → Near p.coefficient z → Near (flatten_after f p).coefficient (z *ℤ exact_operands f)
  near_after nil p z g = subst (Near p.coefficient) (sym (*ℤ-one z)) g
  near_after (t ◂ f) p z g =
      subst (Near (flatten_after f (times p (flatten_mul_factors t))).coefficient) (*ℤ-assoc z (exact t) (exact_operands f))
      (near_after f (times p (flatten_mul_factors t)) (z *ℤ exact t)
      (near_mul p.coefficient (flatten_mul_factors t).coefficient z (exact t) g (near t)))

-- ---- what is accepted

whole_is : (s : Bool) (n : ℕ) (z : ℤ) → whole_number s n ≡ ok z → z ≡ signed s n
unfolding whole_number signed
whole_is false n z e = cc
whole_is true zero z e = cc
whole_is true (suc n) z e = cc

pub cut : (X D n : ℕ) → 0 < D → X * 1 ≡ n * D → (X / D ≡ n) × (X % D ≡ 0)
cut X D n h e =
    let q : X ≡ n * D = sym (mul-one X) ∙ e in
    (ap (λ (x : ℕ). x / D) q ∙ mul-div_cancel n h, ap (λ (x : ℕ). x % D) q ∙ mul-mod_left n D)

never : (i : Refusal) (z : ℤ) → ◌≡◌ {A = Outcome ℤ} (refused i) (ok z) → ⊥
never i z e = let q : ◌≡◌ {A = ℕ} 0 1 = cc in omega arith

accepted_step : (b : Bool) (s : Bool) (n : ℕ) (z : ℤ) → elim b [ true ↦ whole_number s n | false ↦ refused (by 10) ] ≡ ok z → T b × (z ≡ signed s n)
accepted_step true s n z e = (tt, whole_is s n z e)
accepted_step false s n z e = absurd (never (by 10) z e)

accepted_at : (x : Float) (u z : ℤ) → Near x u → constant_of x ≡ ok z → z ≡ u
unfolding constant_of
accepted_at nan u z g e = absurd (never (by 10) z e)
accepted_at (inf s) u z g e = absurd (never (by 10) z e)
accepted_at (fin s m e) u z (inl (t, n, (p, q), r)) h =
    let c = cut (m * up e) (down e) n (down_pos e) q in
    (accepted_step (eqb (m * up e % down e) 0 && ltb (m * up e / down e) (10 ^ 15)) s (m * up e / down e) z h).1 ∙ ap₂ signed p c.0 ∙ sym r
accepted_at (fin s m e) u z (inr l) h =
    let t = (accepted_step (eqb (m * up e % down e) 0 && ltb (m * up e / down e) (10 ^ 15)) s (m * up e / down e) z h).0 in
    let a : m * up e / down e < 10 ^ 15 = ltb→lt (m * up e / down e) (10 ^ 15) (and_right (eqb (m * up e % down e) 0) _ t) in
    let b : 2 ^ 53 ≤ m * up e / down e = (le-div_iff_mul-le (down_pos e)).1 l in
    absurd (omega arith)

-- ---- what compares equal to 1

plus : (s : Bool) (X D : ℕ) → 0 < D → X ≡ 1 * D → T (beq s false || eqb X 0) → s ≡ false
plus false X D h e t = refl
plus true X D h e t = let z : X ≡ 0 = eqb→eq X 0 t in absurd (omega arith)

unit_at : (x : Float) (u : ℤ) → Near x u → T (Ieee.eq x one) → u ≡ pos 1
unfolding Ieee.eq one signed
unit_at nan u g t = absurd t
unit_at (inf s) u g t = absurd t
unit_at (fin s m e) u (inl (a, n, (p, q), r)) t =
    let same = eqb→eq (m * up e * 1) (1 * down e) (and_left (eqb (m * up e * 1) (1 * down e)) _ t) in
    let sign = plus s (m * up e * 1) (down e) (down_pos e) same (and_right (eqb (m * up e * 1) (1 * down e)) _ t) in
    r ∙ ap₂ signed (sym p ∙ sign) (eq_of_mul-eq-mul_right (down e) (down_pos e) n 1 (sym q ∙ same))
unit_at (fin s m e) u (inr l) t =
    let same = eqb→eq (m * up e * 1) (1 * down e) (and_left (eqb (m * up e * 1) (1 * down e)) _ t) in
    absurd (omega (arith, down_pos e))

pub exactly : Exact
exactly =
    record {
      accepted = λ e z q. accepted_at (flatten_mul_factors e).coefficient (exact e) z (near e) q;
      unit = λ e t. unit_at (flatten_mul_factors e).coefficient (exact e) (near e) t;
    }
