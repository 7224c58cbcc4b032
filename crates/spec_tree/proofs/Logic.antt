-- Tests taken apart and put together. Assumes nothing.
use mathlib.Core.Bool.{Bool, true, false, ◌&&◌, ◌||◌, not}
use lib.Dec.{T}
use Prim.Native.Nat.{ℕ, ◌-◌}
use native.Mathlib.Omega.{arith}
use mathlib.Core.Path.{◌≡◌, refl, sym, subst}
use mathlib.Core.Logic.{◌⊎◌, inl, inr}

pub and_left : (b c : Bool) → T (b && c) → T b
and_left true c t = tt
and_left false c t = t

pub and_right : (b c : Bool) → T (b && c) → T c
and_right true c t = t
and_right false c t = absurd t

pub and_both : (b c : Bool) → T b → T c → T (b && c)
and_both true c s t = t
and_both false c s t = s

-- ---- and

pub and_false : (b : Bool) → (b && false) ≡ false
and_false true = refl
and_false false = refl

pub and_not : (b c : Bool) → c ≡ false → (b && c) ≡ false
and_not true c e = e
and_not false c e = refl

pub and_second : (b c : Bool) → (b && c) ≡ true → c ≡ true
and_second true c e = e
and_second false c e = absurd (subst T (sym e) tt)

pub both_true : (b c : Bool) → b && c ≡ true → (b ≡ true) × (c ≡ true)
both_true true c e = (refl, e)
both_true false c e = absurd (subst T (sym e) tt)

pub and_assoc : (a b c : Bool) → ((a && b) && c) ≡ (a && (b && c))
and_assoc true b c = refl
and_assoc false b c = refl

-- ---- or

pub or_left : (b c : Bool) → T b → T (b || c)
or_left true c t = tt
or_left false c t = absurd t

pub or_right : (b c : Bool) → T c → T (b || c)
or_right true c t = tt
or_right false c t = t

pub or_cases : (b c : Bool) → T (b || c) → T b ⊎ T c
or_cases true c t = inl tt
or_cases false c t = inr t

pub either : (P : Type 0) (b c : Bool) → (T b → P) → (T c → P) → T (b || c) → P
either P true c f g h = f tt
either P false c f g h = g h

pub or_left_false : (a b : Bool) → (a || b) ≡ false → a ≡ false
or_left_false true b e = e
or_left_false false b e = refl

pub or_right_false : (a b : Bool) → (a || b) ≡ false → b ≡ false
or_right_false true b e = absurd (let z : ◌≡◌ {A = ℕ} 0 1 = cc in omega arith)
or_right_false false b e = e

pub or_true : (b : Bool) → (b || true) ≡ true
or_true true = refl
or_true false = refl

pub or_assoc : (a b c : Bool) → (a || (b || c)) ≡ ((a || b) || c)
or_assoc true b c = refl
or_assoc false b c = refl

pub together : (y a b c : Bool) → ((y || (a && b)) || (a && c)) ≡ (y || (a && (b || c)))
together true a b c = refl
together false true b c = refl
together false false b c = refl

-- ---- tests that fail, and tests that agree

pub not_true : (b : Bool) → (T b → ⊥) → b ≡ false
not_true true h = absurd (h tt)
not_true false h = refl

pub false_is : (b : Bool) → (T b → ⊥) → false ≡ b
false_is true f = absurd (f tt)
false_is false f = refl

pub never : (b : Bool) → b ≡ false → T b → ⊥
never b e t = subst T e t

pub not_so : (b : Bool) → T (not b) → T b → ⊥
not_so true t u = t
not_so false t u = u

pub same_test : (a b : Bool) → (T a → T b) → (T b → T a) → a ≡ b
same_test true true f g = refl
same_test true false f g = absurd (f tt)
same_test false true f g = absurd (g tt)
same_test false false f g = refl
