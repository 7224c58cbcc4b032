-- Which floats are constants, and the answers of `constant_of`. Assumes nothing.
use Rattle.std.specs.Prelude.{Some, None}
use Rattle.std.specs.Prelude.{Option as Maybe}
use Rattle.std.proofs.Common.{◌≡◌, ℕ, zero, suc, ◌+◌, ◌-◌, ◌*◌, ◌/◌, ◌%◌, ◌^◌, ◌<◌, Bool, true, false, ◌&&◌, T, eqb, ltb, ℤ, sym, refl, ap, ◌∙◌, subst, ap₂, inl, inr, true≢false, eq-zero-or-pos, div-add-mod', arith, eqb→eq, ltb→lt, lt-ltb}
use lib.Ieee.{Float, nan, inf, fin, binary64, up, down, neg, lt, fits}
use lib.Ieee.Exact.{HasValue}
use lib.Ieee.Back.{round_whole, whole_unique}
use lib.Ieee.Fits.{down_pos, round-fits}
use Rattle.spec_tree.specs.Outcome.{Outcome, ok, refused, by}
use Rattle.spec_tree.specs.Tokens.{constant_code}
use Rattle.spec_tree.proofs.Logic.{and_left, and_right}
use Rattle.spec_rewrite.specs.Rewrite.{whole_number, constant_of}
use Rattle.replace.specs.coefficient.Answers.{float, constant_answer}
use Rattle.replace.proofs.coefficient.Whole.{plus_zero, neg_float, neg_neg, positive_not_below, negative_below, minus_zero}
use Rattle.replace.specs.coefficient.Size.{SizeOf}
use Rattle.spec_rewrite.proofs.Coefficient.{cut}

-- ---- the floats of the numbers below 10^15 are constants

whole_step :
    (b s t : Bool) (q n : ℕ) → b ≡ true → t ≡ s → q ≡ n
    → elim b [ true ↦ whole_number t q | false ↦ refused (by 10) ] ≡ whole_number s n
whole_step true s t q n h p e = ap₂ whole_number p e
whole_step false s t q n h p e = absurd (true≢false (sym h))

of_value : (x : Float) (s : Bool) (n : ℕ) → n < 10 ^ 15 → HasValue x s n 1 → constant_of x ≡ whole_number s n
unfolding constant_of
of_value nan s n l h = absurd h
of_value (inf t) s n l h = absurd h
of_value (fin t m e) s n l (p, q) =
    let c = cut (m * up e) (down e) n (down_pos e) q in
    whole_step (eqb (m * up e % down e) 0 && ltb (m * up e / down e) (10 ^ 15)) s t (m * up e / down e) n
    (ap₂ (λ (r q : ℕ). eqb r 0 && ltb q (10 ^ 15)) c.1 c.0 ∙ lt-ltb n (10 ^ 15) l) p c.0

of_float : (s : Bool) (n : ℕ) → n < 10 ^ 15 → constant_of (float s n) ≡ whole_number s n
of_float s n l = of_value (float s n) s n l (round_whole binary64 s n (omega arith))

-- ---- and there is no other

record Accepted (x : Float) (z : ℤ) : Type 0 where
  sign : Bool
  magnitude : ℕ
  small : magnitude < 10 ^ 15
  is : x ≡ float sign magnitude
  no_minus_zero : magnitude ≡ 0 → sign ≡ false

sign_of : (s : Bool) (n : ℕ) (z : ℤ) → whole_number s n ≡ ok z → n ≡ 0 → s ≡ false
unfolding whole_number
sign_of false n z e h = refl
sign_of true zero z e h = absurd (let q : ◌≡◌ {A = ℕ} 0 1 = cc in omega arith)
sign_of true (suc n) z e h = absurd (omega arith)

accepted_step : (b : Bool) (s : Bool) (n : ℕ) (z : ℤ) → elim b [ true ↦ whole_number s n | false ↦ refused (by 10) ] ≡ ok z → T b × (n ≡ 0 → s ≡ false)
accepted_step true s n z e = (tt, sign_of s n z e)
accepted_step false s n z e = absurd (let q : ◌≡◌ {A = ℕ} 0 1 = cc in omega arith)

whole_value : (X D : ℕ) → X % D ≡ 0 → X * 1 ≡ X / D * D
whole_value X D e = let d : X / D * D + X % D ≡ X = div-add-mod' X D in omega arith

accepted : (x : Float) (z : ℤ) → T (fits binary64 x) → constant_of x ≡ ok z → Accepted x z
unfolding constant_of
accepted nan z f e = absurd (let q : ◌≡◌ {A = ℕ} 0 1 = cc in omega arith)
accepted (inf s) z f e = absurd (let q : ◌≡◌ {A = ℕ} 0 1 = cc in omega arith)
accepted (fin s m e) z f h =
    let n = m * up e / down e in
    let k = accepted_step (eqb (m * up e % down e) 0 && ltb n (10 ^ 15)) s n z h in
    let rest : m * up e % down e ≡ 0 = eqb→eq (m * up e % down e) 0 (and_left (eqb (m * up e % down e) 0) (ltb n (10 ^ 15)) k.0) in
    let l : n < 10 ^ 15 = ltb→lt n (10 ^ 15) (and_right (eqb (m * up e % down e) 0) (ltb n (10 ^ 15)) k.0) in
    record {
      sign = s;
      magnitude = n;
      small = l;
      is =
          whole_unique binary64 (fin s m e) (float s n) s n f (round-fits binary64 s n 1) (refl, whole_value (m * up e) (down e) rest)
          (round_whole binary64 s n (omega arith));
      no_minus_zero = k.1;
    }

-- ---- the answers

refused_is : (o : Outcome ℤ) → ((z : ℤ) → o ≡ ok z → ⊥) → None ≡ constant_answer o
unfolding constant_answer
refused_is (ok z) h = absurd (h z refl)
refused_is (refused r) h = refl

module _ (x : Float) (x_Fits : T (fits binary64 x)) where
  pub positive_is : (r : Maybe ℕ) (n : ℕ) → r ≡ Some n → SizeOf x r → Some (2 * n) ≡ constant_answer (constant_of x)
  unfolding constant_answer constant_code whole_number
  positive_is r n e k =
      let h : SizeOf x (Some n) = subst (SizeOf x) e k in
      sym (ap (λ (y : Float). constant_answer (constant_of y)) h.0 ∙ ap constant_answer (of_float false n h.1))

  pub positive_none : (r : Maybe ℕ) → r ≡ None → SizeOf x r → lt x plus_zero ≡ false → None ≡ constant_answer (constant_of x)
  positive_none r e k t = refused_is (constant_of x) (λ z q. let a = accepted x z x_Fits q in go a.sign a.magnitude a.small a.is a.no_minus_zero)
    where
      h : SizeOf x None
      h = subst (SizeOf x) e k

      go : (s : Bool) (n : ℕ) → n < 10 ^ 15 → x ≡ float s n → (n ≡ 0 → s ≡ false) → ⊥
      go false n l p z = h n l p
      go true n l p z =
          elim (eq-zero-or-pos n) [
            | inl o ↦ true≢false (z o)
            | inr q ↦ true≢false (sym (negative_below n l q) ∙ ap (λ (y : Float). lt y plus_zero) (sym p) ∙ t)
          ]

  -- what is below zero is no zero
  pub negative_more : (r : Maybe ℕ) (n : ℕ) → r ≡ Some n → SizeOf (neg x) r → lt x plus_zero ≡ true → 0 < n
  negative_more r n e k t =
      let h : SizeOf (neg x) (Some n) = subst (SizeOf (neg x)) e k in
      let p : x ≡ float true n = sym (neg_neg x) ∙ ap neg h.0 ∙ neg_float n in
      elim (eq-zero-or-pos n) [
        | inl o ↦ absurd (true≢false (sym t ∙ ap (λ (y : Float). lt y plus_zero) p ∙ minus_zero n o))
        | inr q ↦ q
      ]

  pub negative_is : (r : Maybe ℕ) (n : ℕ) → r ≡ Some n → SizeOf (neg x) r → lt x plus_zero ≡ true → Some (2 * n - 1) ≡ constant_answer (constant_of x)
  unfolding constant_answer constant_code whole_number
  negative_is r n e k t =
      let h : SizeOf (neg x) (Some n) = subst (SizeOf (neg x)) e k in
      let p : x ≡ float true n = sym (neg_neg x) ∙ ap neg h.0 ∙ neg_float n in
      sym (ap (λ (y : Float). constant_answer (constant_of y)) p ∙ ap constant_answer (of_float true n h.1) ∙ go n (negative_more r n e k t))
    where
      go : (n : ℕ) → 0 < n → constant_answer (whole_number true n) ≡ Some (2 * n - 1)
      go zero q = absurd (omega arith)
      go (suc n) q = let d : 1 + 2 * n ≡ 2 * suc n - 1 = omega arith in ap Some d

  pub negative_none : (r : Maybe ℕ) → r ≡ None → SizeOf (neg x) r → lt x plus_zero ≡ true → None ≡ constant_answer (constant_of x)
  negative_none r e k t = refused_is (constant_of x) (λ z q. let a = accepted x z x_Fits q in go a.sign a.magnitude a.small a.is)
    where
      h : SizeOf (neg x) None
      h = subst (SizeOf (neg x)) e k

      go : (s : Bool) (n : ℕ) → n < 10 ^ 15 → x ≡ float s n → ⊥
      go true n l p = h n l (ap neg (p ∙ sym (neg_float n)) ∙ neg_neg (float false n))
      go false n l p = true≢false (sym t ∙ ap (λ (y : Float). lt y plus_zero) p ∙ positive_not_below n l)
