-- The texts that are written byte by byte: a slice's bytes, words as bytes, decimal digits and constants. Assumes nothing.
use Prim.Native.Nat.{ℕ, zero, suc, ◌+◌, ◌/◌, ◌%◌, ◌≤◌, ◌<◌, min}
use mathlib.Core.Path.{◌≡◌, refl, sym, ap, ◌∙◌}
use mathlib.Core.Bool.{Bool, true, false}
use mathlib.Core.List.{List, [], ◌∷◌, ◌++◌, map}
use native.Mathlib.Numerals.{add-one}
use native.Mathlib.Omega.{arith}
use borrow.Author.Tests.{lt-ltb, le-ltb, eq-eqb, ne_eqb}
use lib.ListN.{length, get_or, take}
use lib.Seq.{take-suc, take_all}
use Rattle.spec_tree.specs.Bytes.{digits, decimal, integer}
use Rattle.spec_tree.specs.Tokens.{constant_at}
use Rattle.spec_tree.proofs.TokenLaws.{map_append}
use Rattle.fmt.specs.emit.Writing.{Writes, low_bytes}
use Rattle.fmt.proofs.emit.WriteLaws.{writes_none, writes_then, writes_as}
use Rattle.spec_tree.proofs.Digits.{same_digits, by_test}

-- ---- a slice's bytes, i of them written

pub low_none : low_bytes [] ≡ []
unfolding low_bytes
low_none = refl

module _ {dry : Bool} {old : List ℕ} {to : ℕ} (s : List ℕ) where
  pub bytes_begin : (e : ℕ) → e ≡ min to (length old + 1) → Writes dry old to (take 0 s) old e
  bytes_begin e h = writes_none h

  pub bytes_turn : {mid new : List ℕ} {i at e : ℕ} → i < length s → Writes dry old to (take i s) mid at → Writes dry mid at (get_or s i 0 ∷ []) new e → Writes dry old to (take (i + 1) s) new e
  bytes_turn {mid} {new} {i} {at} {e} h p q =
      writes_as (take i s ++ (get_or s i 0 ∷ [])) (take (i + 1) s) (rw (add-one i, take-suc s i 0 h)) (writes_then p q)

  pub bytes_end : {new : List ℕ} {i e : ℕ} → length s ≤ i → Writes dry old to (take i s) new e → Writes dry old to s new e
  bytes_end {new} {i} h p = writes_as (take i s) s (take_all i s h) p

  pub words_begin : (e : ℕ) → e ≡ min to (length old + 1) → Writes dry old to (low_bytes (take 0 s)) old e
  words_begin e h = writes_as [] (low_bytes []) (sym low_none) (writes_none h)

  pub words_turn : {mid new : List ℕ} {i at e : ℕ} → i < length s → Writes dry old to (low_bytes (take i s)) mid at → Writes dry mid at (get_or s i 0 % 256 ∷ []) new e → Writes dry old to (low_bytes (take (i + 1) s)) new e
  unfolding low_bytes
  words_turn {mid} {new} {i} {at} {e} h p q =
      writes_as (map (λ w. w % 256) (take i s) ++ (get_or s i 0 % 256 ∷ [])) (map (λ w. w % 256) (take (i + 1) s))
      (rw (add-one i, take-suc s i 0 h, map_append (λ w. w % 256) (take i s) (get_or s i 0 ∷ []))) (writes_then p q)

  pub words_end : {new : List ℕ} {i e : ℕ} → length s ≤ i → Writes dry old to (low_bytes (take i s)) new e → Writes dry old to (low_bytes s) new e
  words_end {new} {i} h p = writes_as (low_bytes (take i s)) (low_bytes s) (ap low_bytes (take_all i s h)) p

-- ---- decimal digits

pub one_digit : (n : ℕ) → n < 10 → decimal n ≡ (48 + n) ∷ []
unfolding decimal digits
one_digit zero h = refl
one_digit (suc n) h = by_test (suc n) (digits n (suc n / 10) ++ ((48 + suc n % 10) ∷ [])) true (lt-ltb (suc n) 10 h)

pub more_digits : (n : ℕ) → 10 ≤ n → decimal n ≡ decimal (n / 10) ++ ((48 + n % 10) ∷ [])
unfolding decimal digits
more_digits zero h = absurd (omega arith)
more_digits (suc n) h =
    by_test (suc n) (digits n (suc n / 10) ++ ((48 + suc n % 10) ∷ [])) false (le-ltb (suc n) 10 h)
    ∙ ap (λ (l : List ℕ). l ++ ((48 + suc n % 10) ∷ [])) (same_digits n (suc n / 10) (suc n / 10) (omega arith) (omega arith))

module _ {dry : Bool} {old : List ℕ} {to : ℕ} (n : ℕ) where
  pub digit_written : {new : List ℕ} {e : ℕ} → n < 10 → Writes dry old to ((48 + n) ∷ []) new e → Writes dry old to (decimal n) new e
  digit_written h p = writes_as ((48 + n) ∷ []) (decimal n) (sym (one_digit n h)) p

  pub digits_written : {mid new : List ℕ} {at e : ℕ} → 10 ≤ n → Writes dry old to (decimal (n / 10)) mid at → Writes dry mid at ((48 + n % 10) ∷ []) new e → Writes dry old to (decimal n) new e
  digits_written h p q = writes_as (decimal (n / 10) ++ ((48 + n % 10) ∷ [])) (decimal n) (sym (more_digits n h)) (writes_then p q)
  -- ---- constants

minus_text : (n : ℕ) → (n % 2 ≡ 0 → ⊥) → 45 ∷ decimal (n / 2 + 1) ≡ integer (constant_at n)
unfolding constant_at integer
minus_text n h = rw (ne_eqb (n % 2) 0 h, add-one (n / 2))

module _ {dry : Bool} {old : List ℕ} {to : ℕ} (n : ℕ) where
  pub plain_written : {new : List ℕ} {e : ℕ} → n % 2 ≡ 0 → Writes dry old to (decimal (n / 2)) new e → Writes dry old to (integer (constant_at n)) new e
  unfolding constant_at integer
  plain_written h p = rw (eq-eqb (n % 2) 0 h) p

  pub minus_written : {mid new : List ℕ} {at e : ℕ} → (n % 2 ≡ 0 → ⊥) → Writes dry old to (45 ∷ []) mid at → Writes dry mid at (decimal (n / 2 + 1)) new e → Writes dry old to (integer (constant_at n)) new e
  minus_written h p q = writes_as (45 ∷ decimal (n / 2 + 1)) (integer (constant_at n)) (minus_text n h) (writes_then p q)
