-- Numbers and constants as the code reads them: digit by digit, no further than a cap. Assumes nothing.
use Rattle.std.specs.Prelude.{Some, None}
use Prim.Native.Nat.{ℕ, zero, suc, ◌+◌, ◌-◌, ◌*◌, ◌^◌, ◌≤◌, ◌<◌, min}
use mathlib.Core.Path.{◌≡◌, refl, sym, ◌∙◌, ap}
use mathlib.Core.Bool.{Bool, true, false, ◌&&◌, cond}
use mathlib.Core.Option.{Option, none, some}
use mathlib.Core.List.{List, [], ◌∷◌}
use native.Mathlib.Numerals.{add-one}
use native.Mathlib.Omega.{arith}
use borrow.Author.Tests.{lt-ltb, le-ltb, eq-eqb, ne_eqb}
use lib.IntN.{ℤ, pos}
use lib.ListN.{length, get_or, drop, drop_of_length-le}
use lib.Seq.{drop-cons}
use Rattle.spec_tree.specs.Bytes.{every}
use Rattle.spec_tree.specs.Symbol.{is_digit}
use Rattle.spec_sheet.specs.Sheet.{number_from, number, below_limit, minus, constant}
use Rattle.load.specs.numerals.Values.{digits_number, capped_at, number_answer, constant_answer, signed}

-- ---- digit by digit

module _ (cap : ℕ) where
  -- a number past the cap stays past it, whatever digits follow
  same_cap : (l : List ℕ) (m k : ℕ) → min m cap ≡ min k cap → min (number_from m l) cap ≡ min (number_from k l) cap
  unfolding number_from
  same_cap [] m k e = e
  same_cap (b ∷ l) m k e = same_cap l (m * 10 + (b - 48)) (k * 10 + (b - 48)) (omega arith)

  module _ (s : List ℕ) (i v : ℕ) (q : min (number_from 0 s) cap ≡ min (number_from v (drop i s)) cap) where
    pub value_next : i < length s → (w : ℕ) → w ≡ min (v * 10 + (get_or s i 0 - 48)) cap → min (number_from 0 s) cap ≡ min (number_from w (drop (i + 1) s)) cap
    unfolding number_from
    value_next h w e = q ∙ rw (drop-cons s i 0 h, add-one i) (same_cap (drop (suc i) s) (v * 10 + (get_or s i 0 - 48)) w (omega arith))

    pub value_end : length s ≤ i → v ≤ cap → v ≡ min (number_from 0 s) cap
    unfolding number_from
    value_end h l = sym (q ∙ rw (drop_of_length-le s {i = i} h) (omega arith))

  pub digits_read : (s : List ℕ) (v : ℕ) → true ≡ every is_digit s → v ≡ min (number_from 0 s) cap → Some v ≡ number_answer (capped_at cap (digits_number s))
  unfolding digits_number
  digits_read s v e h = rw (← e) (ap Some h)

  pub digits_bad : (s : List ℕ) → false ≡ every is_digit s → None ≡ number_answer (capped_at cap (digits_number s))
  unfolding digits_number
  digits_bad s e = rw (← e)

-- ---- leading zeros

pub number_empty : (s : List ℕ) → length s ≡ 0 → number s ≡ none
unfolding number
number_empty [] e = refl
number_empty (b ∷ s) e = absurd (omega arith)

pub number_one : (s : List ℕ) → length s ≡ 1 → number s ≡ digits_number s
unfolding number digits_number every number_from
number_one [] e = absurd (omega arith)
number_one (b ∷ []) e = go (is_digit b)
  where
    go : (t : Bool) → cond t (some (b - 48)) none ≡ cond (t && true) (some (0 * 10 + (b - 48))) none
    go true = ap some (omega arith)
    go false = refl
number_one (b ∷ (c ∷ s)) e = absurd (omega arith)

module _ (s : List ℕ) (p : length s ≡ 0 → ⊥) (q : length s ≡ 1 → ⊥) where
  abbrev Long : List ℕ → Type 0
  Long l = (length l ≡ 0 → ⊥) × (length l ≡ 1 → ⊥)

  pub number_zero : get_or s 0 0 ≡ 48 → number s ≡ none
  number_zero e = go s (p, q) e
    where
      never : (t : Bool) (n : ℕ) → cond (t && false) (some n) none ≡ none
      never true n = refl
      never false n = refl

      go : (l : List ℕ) → Long l → get_or l 0 0 ≡ 48 → number l ≡ none
      go [] h e = absurd (h.0 refl)
      go (b ∷ []) h e = absurd (h.1 refl)
      go (b ∷ (c ∷ l)) h e = unfold number in rw (eq-eqb b 48 e) (never (every is_digit (b ∷ (c ∷ l))) (number_from 0 (b ∷ (c ∷ l))))

  pub number_more : (get_or s 0 0 ≡ 48 → ⊥) → number s ≡ digits_number s
  unfolding number digits_number
  number_more n = go s (p, q) n
    where
      whole : (t : Bool) (n : ℕ) → cond (t && true) (some n) none ≡ cond t (some n) none
      whole true n = refl
      whole false n = refl

      go : (l : List ℕ) → Long l → (get_or l 0 0 ≡ 48 → ⊥) → number l ≡ digits_number l
      go [] h n = absurd (h.0 refl)
      go (b ∷ []) h n = absurd (h.1 refl)
      go (b ∷ (c ∷ l)) h n = rw (ne_eqb b 48 n) (whole (every is_digit (b ∷ (c ∷ l))) (number_from 0 (b ∷ (c ∷ l))))

-- ---- what an answer says of the number that was read

pub answer_none : (cap : ℕ) (o : Option ℕ) → None ≡ number_answer (capped_at cap o) → o ≡ none
answer_none cap none e = refl
answer_none cap (some n) e = cc

pub record Read (cap : ℕ) (o : Option ℕ) (n : ℕ) : Type 0 where
  pub value : ℕ
  pub is : o ≡ some value
  pub stopped : n ≡ min value cap

pub answer_value : (cap : ℕ) (o : Option ℕ) (n : ℕ) → Some n ≡ number_answer (capped_at cap o) → Read cap o n
answer_value cap none n e = absurd (let z : ◌≡◌ {A = ℕ} 0 1 = cc in omega arith)
answer_value cap (some m) n e = record { value = m; is = refl; stopped = cc }

-- ---- constants: the size

abbrev Limit : ℕ
Limit = 10 ^ 15

module _ (o : Option ℕ) where
  pub read_none : None ≡ number_answer (capped_at Limit o) → (g : ℕ → Option ℤ) → None ≡ constant_answer (below_limit g o)
  unfolding below_limit
  read_none e g = rw (answer_none Limit o e)

  module _ (n : ℕ) (e : Some n ≡ number_answer (capped_at Limit o)) where
    pub read_past : Limit ≤ n → (g : ℕ → Option ℤ) → None ≡ constant_answer (below_limit g o)
    unfolding below_limit
    read_past h g =
        let r = answer_value Limit o n e in
        let l : Limit ≤ r.value = omega arith in
        rw (r.is, le-ltb r.value Limit l)

    read_below : n < Limit → o ≡ some n
    read_below h = let r = answer_value Limit o n e in r.is ∙ ap some (omega arith)

    pub read_pos : n < Limit → Some (signed 0 n) ≡ constant_answer (below_limit (λ m. some (pos m)) o)
    unfolding below_limit
    read_pos h = rw (read_below h, lt-ltb n Limit h)

    pub read_minus : n < Limit → (n ≡ 0 → ⊥) → Some (signed 1 n) ≡ constant_answer (below_limit minus o)
    unfolding below_limit minus
    read_minus h p = rw (read_below h) (go n h p)
      where
        go : (n : ℕ) → n < Limit → (n ≡ 0 → ⊥) → Some (signed 1 n) ≡ constant_answer (below_limit minus (some n))
        go zero h p = absurd (p refl)
        go (suc n) h p = rw (lt-ltb (suc n) Limit h)

    pub read_minus_zero : n ≡ 0 → None ≡ constant_answer (below_limit minus o)
    unfolding below_limit minus
    read_minus_zero z = rw (read_below (omega arith), z)

-- ---- constants: the sign

pub constant_empty : (s : List ℕ) → length s ≡ 0 → constant s ≡ none
unfolding constant
constant_empty [] e = refl
constant_empty (b ∷ s) e = absurd (omega arith)

pub constant_minus : (s : List ℕ) → (length s ≡ 0 → ⊥) → get_or s 0 0 ≡ 45 → constant s ≡ below_limit minus (number (drop 1 s))
unfolding constant
constant_minus [] p e = absurd (p refl)
constant_minus (b ∷ s) p e = rw (eq-eqb b 45 e, constant)

pub constant_plain : (s : List ℕ) → (length s ≡ 0 → ⊥) → (get_or s 0 0 ≡ 45 → ⊥) → constant s ≡ below_limit (λ n. some (pos n)) (number s)
unfolding constant
constant_plain [] p n = absurd (p refl)
constant_plain (b ∷ s) p n = rw (ne_eqb b 45 n, constant)
