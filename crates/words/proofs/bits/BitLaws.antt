-- A table of yes or no: a place made yes is yes and every other is as before. Assumes nothing.
use Prim.Native.Nat.{ℕ, zero, suc, ◌+◌, ◌-◌, ◌*◌, ◌/◌, ◌%◌, ◌^◌, ◌≤◌, ◌<◌}
use mathlib.Core.Path.{◌≡◌, refl, sym, ◌∙◌, ap, subst}
use mathlib.Core.Logic.{◌⊎◌, inl, inr, ◌≢◌}
use mathlib.Core.Bool.{Bool, true, false, ◌&&◌, cond}
use mathlib.Core.List.{List}
use native.Mathlib.Omega.{arith}
use native.Mathlib.Nat.{one-mul, div-eq_of_lt, pow-suc}
use borrow.Author.Tests.{ltb-true, ltb-false, lt-ltb, le-ltb, eqb-true, eqb-false, eq-eqb}
use lib.Dec.{T, eqb, ltb, ltb→lt, lit<}
use lib.Bits.{bit_or, or_shr, or_mod, or_zero_r}
use lib.Pow.{pow_pos, pow-lt, pow-add, shl_exact, shl-shr}
use lib.ListN.{length, get_or, set, length-set}
use lib.Seq.{get_or-set_same, get_or-set_other}
use Rattle.spec_tree.proofs.Logic.{and_left, and_right}
use Rattle.words.specs.bits.Bits.{bit, inside, yes, with_yes, word_of}

-- ---- two numbers

below_or_not : (a b : ℕ) → (a < b) ⊎ (b ≤ a)
below_or_not a b = go (ltb a b) refl
  where
    go : (t : Bool) → ltb a b ≡ t → (a < b) ⊎ (b ≤ a)
    go true e = inl (ltb-true a b e)
    go false e = inr (ltb-false a b e)

same_or_not : (a b : ℕ) → (a ≡ b) ⊎ (a ≢ b)
same_or_not a b = go (eqb a b) refl
  where
    go : (t : Bool) → eqb a b ≡ t → (a ≡ b) ⊎ (a ≢ b)
    go true e = inl (eqb-true a b e)
    go false e = inr (eqb-false a b e)

-- ---- bits of a word

-- the machine cuts a shifted 1 to 64 bits, which loses nothing
pub one_shifted : (k : ℕ) → k < 64 → (1 * 2 ^ k) % 2 ^ 64 ≡ 2 ^ k
one_shifted k h = shl_exact {a = 1} 1 k 64 (lit< tt) (omega arith) ∙ one-mul (2 ^ k)

same_power : (k : ℕ) → 2 ^ k / 2 ^ k ≡ 1
same_power k = subst (λ (n : ℕ). n / 2 ^ k ≡ 1) (one-mul (2 ^ k)) (shl-shr 1 k)

even_power : (j d : ℕ) → 2 ^ (suc d + j) / 2 ^ j % 2 ≡ 0
even_power j d = rw (pow-add 2 (suc d) j, shl-shr (2 ^ suc d) j, pow-suc 2 d) (omega arith)

other_power : (j k : ℕ) → j ≢ k → 2 ^ k / 2 ^ j % 2 ≡ 0
other_power j k n =
    elim (below_or_not j k) [
      | inl h ↦ subst (λ (m : ℕ). 2 ^ m / 2 ^ j % 2 ≡ 0) (let e : suc (k - suc j) + j ≡ k = omega arith in e) (even_power j (k - suc j))
      | inr h ↦ rw (div-eq_of_lt (pow-lt (let l : k < j = omega arith in l)))
    ]

or_bit : (a b j : ℕ) → bit_or a b / 2 ^ j % 2 ≡ bit_or (a / 2 ^ j % 2) (b / 2 ^ j % 2)
or_bit a b j = rw (or_shr a b j) (or_mod (a / 2 ^ j) (b / 2 ^ j) 1)

or_one : (x : ℕ) → x < 2 → bit_or x 1 ≡ 1
or_one zero h = refl
or_one (suc zero) h = refl
or_one (suc (suc x)) h = absurd (omega arith)

pub bit_made : (w k : ℕ) → bit (bit_or w (2 ^ k)) k ≡ true
unfolding bit
bit_made w k =
    eq-eqb (bit_or w (2 ^ k) / 2 ^ k % 2) 1
    (or_bit w (2 ^ k) k ∙ (ap (λ (n : ℕ). bit_or (w / 2 ^ k % 2) n) (let e : 2 ^ k / 2 ^ k % 2 ≡ 1 = rw (same_power k) refl in e) ∙ or_one (w / 2 ^ k % 2) (omega arith)))

pub bit_kept : (w k j : ℕ) → j ≢ k → bit (bit_or w (2 ^ k)) j ≡ bit w j
unfolding bit
bit_kept w k j n =
    ap (λ (m : ℕ). eqb m 1) (or_bit w (2 ^ k) j ∙ (ap (λ (m : ℕ). bit_or (w / 2 ^ j % 2) m) (other_power j k n) ∙ or_zero_r (w / 2 ^ j % 2)))

pub zero_bit : (k : ℕ) → bit 0 k ≡ false
unfolding bit
zero_bit k = rw (div-eq_of_lt (pow_pos k)) refl

-- ---- places

pub inside_of : (n row column : ℕ) → column < 2048 → word_of row column < n → inside n row column ≡ true
unfolding inside
inside_of n row column c h = rw (lt-ltb column 2048 c, lt-ltb (word_of row column) n h) refl

pub outside_column : (n row column : ℕ) → 2048 ≤ column → false ≡ inside n row column
unfolding inside
outside_column n row column h = rw (le-ltb column 2048 h) refl

pub inside_word : (n row column : ℕ) → column < 2048 → ltb (word_of row column) n ≡ inside n row column
unfolding inside
inside_word n row column h = rw (lt-ltb column 2048 h) refl

pub outside_word : (n row column : ℕ) → column < 2048 → n ≤ word_of row column → false ≡ inside n row column
outside_word n row column c h = rw (sym (inside_word n row column c), le-ltb (word_of row column) n h) refl

-- as the code tests it: the words of the rows before taken away
pub inside_rest : (n row column : ℕ) → column < 2048 → 32 * row ≤ n → ltb (column / 64) (n - 32 * row) ≡ inside n row column
inside_rest n row column c h = go (ltb (column / 64) (n - 32 * row)) refl
  where
    go : (b : Bool) → ltb (column / 64) (n - 32 * row) ≡ b → b ≡ inside n row column
    go true e = let l = ltb-true (column / 64) (n - 32 * row) e in sym (inside_of n row column c (omega arith))
    go false e = let l = ltb-false (column / 64) (n - 32 * row) e in outside_word n row column c (omega arith)

pub is_in : (n row column : ℕ) → inside n row column ≡ true → (column < 2048) × (word_of row column < n)
unfolding inside
is_in n row column e =
    let t : T (ltb column 2048 && ltb (word_of row column) n) = subst T (sym e) tt in
    (ltb→lt column 2048 (and_left (ltb column 2048) (ltb (word_of row column) n) t), ltb→lt (word_of row column) n (and_right (ltb column 2048) (ltb (word_of row column) n) t))

pub yes_inside : (table : List ℕ) (row column : ℕ) → inside (length table) row column ≡ true → bit (get_or table (word_of row column) 0) (column % 64) ≡ yes table row column
unfolding yes
yes_inside table row column e = rw e refl

pub no_outside : (table : List ℕ) (row column : ℕ) → inside (length table) row column ≡ false → false ≡ yes table row column
unfolding yes
no_outside table row column e = rw e refl

-- ---- a place made yes

pub with_inside :
    (table : List ℕ) (row column : ℕ) → inside (length table) row column ≡ true
    → set table (word_of row column) (bit_or (get_or table (word_of row column) 0) (2 ^ (column % 64))) ≡ with_yes table row column
unfolding with_yes
with_inside table row column e = rw e refl

pub with_outside : (table : List ℕ) (row column : ℕ) → inside (length table) row column ≡ false → table ≡ with_yes table row column
unfolding with_yes
with_outside table row column e = rw e refl

pub with_length : (table : List ℕ) (row column : ℕ) → length (with_yes table row column) ≡ length table
unfolding with_yes
with_length table row column = go (inside (length table) row column)
  where
    go : (b : Bool) → length (cond b (set table (word_of row column) (bit_or (get_or table (word_of row column) 0) (2 ^ (column % 64)))) table) ≡ length table
    go true = length-set table (word_of row column) (bit_or (get_or table (word_of row column) 0) (2 ^ (column % 64)))
    go false = refl

-- it is yes
pub made_yes : (table : List ℕ) (row column : ℕ) → inside (length table) row column ≡ true → yes (with_yes table row column) row column ≡ true
made_yes table row column e =
    let i = is_in (length table) row column e in
    let w = bit_or (get_or table (word_of row column) 0) (2 ^ (column % 64)) in
    sym (yes_inside (with_yes table row column) row column (rw (with_length table row column) e))
    ∙ rw (sym (with_inside table row column e), get_or-set_same table (word_of row column) w 0 i.1) (bit_made (get_or table (word_of row column) 0) (column % 64))

same_place : (r c row column : ℕ) → c < 2048 → column < 2048 → word_of r c ≡ word_of row column → c % 64 ≡ column % 64 → (r ≡ row) × (c ≡ column)
same_place r c row column h k e f = (omega arith, omega arith)

-- every other place is as before
pub kept_yes : (table : List ℕ) (row column r c : ℕ) → ((r ≡ row) × (c ≡ column) → ⊥) → yes (with_yes table row column) r c ≡ yes table r c
kept_yes table row column r c n = go (inside (length table) row column) (inside (length table) r c) refl refl
  where
    w : ℕ
    w = bit_or (get_or table (word_of row column) 0) (2 ^ (column % 64))

    word_kept : inside (length table) row column ≡ true → inside (length table) r c ≡ true → bit (get_or (set table (word_of row column) w) (word_of r c) 0) (c % 64) ≡ bit (get_or table (word_of r c) 0) (c % 64)
    word_kept e f =
        let i = is_in (length table) row column e in
        let j = is_in (length table) r c f in
        elim (same_or_not (word_of r c) (word_of row column)) [
          | inl q ↦ rw (q, get_or-set_same table (word_of row column) w 0 i.1)
              (bit_kept (get_or table (word_of row column) 0) (column % 64) (c % 64) (λ p. n (same_place r c row column j.0 i.0 q p)))
          | inr q ↦ rw (get_or-set_other table (word_of row column) (word_of r c) w 0 q) refl
        ]

    go : (a b : Bool) → inside (length table) row column ≡ a → inside (length table) r c ≡ b → yes (with_yes table row column) r c ≡ yes table r c
    go false b e f = rw (sym (with_outside table row column e)) refl
    go true false e f = sym (no_outside (with_yes table row column) r c (rw (with_length table row column) f)) ∙ no_outside table r c f
    go true true e f =
        sym (yes_inside (with_yes table row column) r c (rw (with_length table row column) f))
        ∙ (rw (sym (with_inside table row column e)) (word_kept e f) ∙ yes_inside table r c f)

-- as the code sets it
pub with_shifted :
    (table : List ℕ) (row column : ℕ) → inside (length table) row column ≡ true
    → set table (word_of row column) (bit_or (get_or table (word_of row column) 0) ((1 * 2 ^ (column % 64)) % 2 ^ 64)) ≡ with_yes table row column
with_shifted table row column e = rw (one_shifted (column % 64) (omega arith)) (with_inside table row column e)
