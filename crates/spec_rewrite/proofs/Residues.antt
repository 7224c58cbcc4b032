-- Laws of the arithmetic of residues. Assumes nothing.
use Prim.Native.Nat.{ℕ, zero, suc, ◌+◌, ◌-◌, ◌*◌, ◌%◌, ◌/◌, ◌≤◌, ◌<◌}
use mathlib.Core.Path.{◌≡◌, sym, ◌∙◌, ap, ◌≡⟨◌⟩◌, ◌∎}
use native.Mathlib.Nat.{mul_comm, mul_assoc, mul_left_comm, add-mul, one-mul, mul-zero, mod-add-div, add-mul-mod_self_left, mod-mod, mod-lt, suc-mul, zero-mod, mul-suc, mul-add-mod_self_left, mul-add-mod_self_right}
use native.Mathlib.Omega.{arith}
use lib.IntN.{ℤ, pos, negsuc, neg_ℤ, ◌*ℤ◌}
use Rattle.spec_tree.specs.Value.{mul_mod, neg_mod, residue}

-- a factor may be reduced first
pub mod_mul_left : (m a b : ℕ) → a % m * b % m ≡ a * b % m
mod_mul_left m a b =
    a % m * b % m ≡⟨ sym (add-mul-mod_self_left (a % m * b) m (a / m * b)) ⟩
    (a % m * b + m * (a / m * b)) % m ≡⟨ ap (λ (x : ℕ). x % m) (ap (λ (x : ℕ). a % m * b + x) (sym (mul_assoc m (a / m) b)) ∙ sym (add-mul (a % m) (m * (a / m)) b)) ⟩
    (a % m + m * (a / m)) * b % m ≡⟨ ap (λ (x : ℕ). x * b % m) (mod-add-div a m) ⟩
    a * b % m ∎

pub mod_mul_right : (m a b : ℕ) → a * (b % m) % m ≡ a * b % m
mod_mul_right m a b =
    ap (λ (x : ℕ). x % m) (mul_comm a (b % m)) ∙ mod_mul_left m b a ∙ ap (λ (x : ℕ). x % m) (mul_comm b a)

module _ (m : ℕ) where
  pub mul_mod_comm : (a b : ℕ) → mul_mod m a b ≡ mul_mod m b a
  unfolding mul_mod
  mul_mod_comm a b = ap (λ (x : ℕ). x % m) (mul_comm a b)

  pub mul_mod_reduce_left : (a b : ℕ) → mul_mod m (a % m) b ≡ mul_mod m a b
  unfolding mul_mod
  mul_mod_reduce_left a b = mod_mul_left m a b

  pub mul_mod_reduce_right : (a b : ℕ) → mul_mod m a (b % m) ≡ mul_mod m a b
  unfolding mul_mod
  mul_mod_reduce_right a b = mod_mul_right m a b

-- ---- minus is a product with modulus - 1, whose square is 1

past : (m a : ℕ) → 0 < m → m * suc (a / m) ≡ a + (m - a % m)
past m a h = mul-suc m (a / m) ∙ omega (arith, mod-add-div a m, mod-lt a h)

pub neg_mod_is : (p a : ℕ) → neg_mod (suc p) a ≡ mul_mod (suc p) p a
unfolding neg_mod mul_mod
neg_mod_is p a =
    sym
    (p * a % suc p ≡⟨ sym (add-mul-mod_self_left (p * a) (suc p) (suc (a / suc p))) ⟩
    (p * a + suc p * suc (a / suc p)) % suc p ≡⟨ ap (λ (x : ℕ). x % suc p) gather ⟩
    (suc p * a + (suc p - a % suc p)) % suc p ≡⟨ mul-add-mod_self_left (suc p) a (suc p - a % suc p) ⟩
    (suc p - a % suc p) % suc p ∎)
  where
    gather : p * a + suc p * suc (a / suc p) ≡ suc p * a + (suc p - a % suc p)
    gather = omega (arith, past (suc p) a (omega arith), suc-mul p a)

square : (q : ℕ) → suc q * suc q ≡ q * suc (suc q) + 1
square q = simp (mul-suc, suc-mul) (omega arith)

pub minus_one_twice : (q a : ℕ) → mul_mod (suc (suc q)) (suc q) (mul_mod (suc (suc q)) (suc q) a) ≡ a % suc (suc q)
unfolding mul_mod
minus_one_twice q a =
    mod_mul_right m (suc q) (suc q * a) ∙ ap (λ (x : ℕ). x % m) (sym (mul_assoc (suc q) (suc q) a)) ∙ sym (mod_mul_left m (suc q * suc q) a)
    ∙ ap (λ (x : ℕ). x % m * a % m) (square q)
    ∙ ap (λ (x : ℕ). x * a % m) (mul-add-mod_self_right q m 1) ∙ mod_mul_left m 1 a ∙ ap (λ (x : ℕ). x % m) (one-mul a)
  where
    m : ℕ
    m = suc (suc q)

-- ---- the residue of an integer goes with minus and with products

module _ (q : ℕ) where
  pub residue_neg_pos : (k : ℕ) → residue (suc (suc q)) (neg_ℤ (pos k)) ≡ mul_mod (suc (suc q)) (suc q) k
  unfolding residue mul_mod
  residue_neg_pos zero = zero-mod (suc (suc q)) ∙ sym (ap (λ (x : ℕ). x % suc (suc q)) (mul-zero (suc q)) ∙ zero-mod (suc (suc q)))
  residue_neg_pos (suc n) = neg_mod_is (suc q) (suc n)

  pub residue_neg : (z : ℤ) → residue (suc (suc q)) (neg_ℤ z) ≡ mul_mod (suc (suc q)) (suc q) (residue (suc (suc q)) z)
  unfolding residue
  residue_neg (pos k) = residue_neg_pos k ∙ sym (mul_mod_reduce_right (suc (suc q)) (suc q) k)
  residue_neg (negsuc n) = sym (ap (mul_mod (suc (suc q)) (suc q)) (neg_mod_is (suc q) (suc n)) ∙ minus_one_twice q (suc n))

  both_reduced : (a b : ℕ) → mul_mod (suc (suc q)) (a % suc (suc q)) (b % suc (suc q)) ≡ a * b % suc (suc q)
  unfolding mul_mod
  both_reduced a b = mul_mod_reduce_left (suc (suc q)) a (b % suc (suc q)) ∙ mul_mod_reduce_right (suc (suc q)) a b

  -- minus goes to the front of a product
  front : (a b : ℕ) → mul_mod (suc (suc q)) a (mul_mod (suc (suc q)) (suc q) b) ≡ mul_mod (suc (suc q)) (suc q) (a * b)
  unfolding mul_mod
  front a b = mod_mul_right (suc (suc q)) a (suc q * b) ∙ ap (λ (x : ℕ). x % suc (suc q)) (mul_left_comm a (suc q) b)

  drawn : (a b : ℕ) → neg_mod (suc (suc q)) (suc a) * suc b % suc (suc q) ≡ mul_mod (suc (suc q)) (suc q) (suc a * suc b)
  unfolding mul_mod
  drawn a b =
      ap (λ (x : ℕ). x * suc b % suc (suc q)) (neg_mod_is (suc q) (suc a)) ∙ mod_mul_left (suc (suc q)) (suc q * suc a) (suc b)
      ∙ ap (λ (x : ℕ). x % suc (suc q)) (mul_assoc (suc q) (suc a) (suc b))

  pub residue_mul : (y z : ℤ) → residue (suc (suc q)) (y *ℤ z) ≡ mul_mod (suc (suc q)) (residue (suc (suc q)) y) (residue (suc (suc q)) z)
  unfolding residue
  residue_mul (pos a) (pos b) = sym (both_reduced a b)
  residue_mul (pos a) (negsuc b) =
      residue_neg_pos (a * suc b) ∙ sym (front a (suc b)) ∙ sym (mul_mod_reduce_left (suc (suc q)) a (mul_mod (suc (suc q)) (suc q) (suc b)))
      ∙ ap (mul_mod (suc (suc q)) (a % suc (suc q))) (sym (neg_mod_is (suc q) (suc b)))
  residue_mul (negsuc a) (pos b) =
      residue_neg_pos (suc a * b) ∙ ap (mul_mod (suc (suc q)) (suc q)) (mul_comm (suc a) b) ∙ sym (front b (suc a))
      ∙ sym (mul_mod_reduce_left (suc (suc q)) b (mul_mod (suc (suc q)) (suc q) (suc a)))
      ∙ ap (mul_mod (suc (suc q)) (b % suc (suc q))) (sym (neg_mod_is (suc q) (suc a)))
      ∙ mul_mod_comm (suc (suc q)) (b % suc (suc q)) (neg_mod (suc (suc q)) (suc a))
  residue_mul (negsuc a) (negsuc b) =
      sym
      (ap (λ (x : ℕ). mul_mod (suc (suc q)) (neg_mod (suc (suc q)) (suc a)) x) (neg_mod_is (suc q) (suc b))
      ∙ front (neg_mod (suc (suc q)) (suc a)) (suc b)
      ∙ sym (mul_mod_reduce_right (suc (suc q)) (suc q) (neg_mod (suc (suc q)) (suc a) * suc b))
      ∙ ap (mul_mod (suc (suc q)) (suc q)) (drawn a b)
      ∙ minus_one_twice q (suc a * suc b))

-- ---- the same for any modulus from 2 up

pub residue_mul_at : (m : ℕ) → 2 ≤ m → (y z : ℤ) → residue m (y *ℤ z) ≡ mul_mod m (residue m y) (residue m z)
residue_mul_at zero h y z = absurd (omega arith)
residue_mul_at (suc zero) h y z = absurd (omega arith)
residue_mul_at (suc (suc q)) h y z = residue_mul q y z

-- minus a number, where the number is known as a product with a residue
pub neg_times : (m : ℕ) → 2 ≤ m → (a b : ℕ) (z : ℤ) → a % m ≡ residue m z * b % m → (m - a % m) % m ≡ residue m (neg_ℤ z) * b % m
unfolding neg_mod mul_mod
neg_times zero h a b z e = absurd (omega arith)
neg_times (suc zero) h a b z e = absurd (omega arith)
neg_times (suc (suc q)) h a b z e =
    neg_mod_is (suc q) a ∙ sym (mod_mul_right (suc (suc q)) (suc q) a) ∙ ap (λ (x : ℕ). suc q * x % suc (suc q)) e
    ∙ mod_mul_right (suc (suc q)) (suc q) (residue (suc (suc q)) z * b)
    ∙ ap (λ (x : ℕ). x % suc (suc q)) (sym (mul_assoc (suc q) (residue (suc (suc q)) z) b))
    ∙ sym (mod_mul_left (suc (suc q)) (suc q * residue (suc (suc q)) z) b)
    ∙ ap (λ (x : ℕ). x * b % suc (suc q)) (sym (residue_neg q z))

-- a residue is reduced
pub residue_reduced : (m : ℕ) (z : ℤ) → residue m z % m ≡ residue m z
unfolding residue neg_mod
residue_reduced m (pos n) = mod-mod n m
residue_reduced m (negsuc n) = mod-mod (m - suc n % m) m
