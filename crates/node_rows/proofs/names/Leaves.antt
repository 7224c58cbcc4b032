-- The tests of names and words in the order in which the code makes them. Assumes nothing.
use Prim.Native.Nat.{ℕ, suc, ◌+◌, ◌-◌, ◌/◌, ◌%◌, ◌^◌, ◌≤◌, ◌<◌}
use mathlib.Core.Path.{◌≡◌, refl, sym, ap, ◌∙◌}
use mathlib.Core.Bool.{Bool, true, false, not, ◌&&◌, ◌||◌}
use mathlib.Core.List.{List, [], ◌∷◌}
use native.Mathlib.Omega.{arith}
use native.Mathlib.Numerals.{add-one}
use borrow.Author.Tests.{le-leb, ne_eqb}
use lib.Dec.{T, eqb, leb}
use lib.ListN.{length, get_or, take, drop, length-drop, drop_of_length-le}
use lib.Seq.{drop-cons, take_all}
use Rattle.std.specs.List.{list_all}
use Rattle.spec_tree.specs.Bytes.{every}
use Rattle.spec_tree.specs.Symbol.{is_digit, is_letter, is_made, is_name}
use Rattle.node_rows.proofs.kinds.Spans.{span}

yes : (b : Bool) → T b → true ≡ b
yes true t = refl
yes false t = absurd t

no : (b : Bool) → T (not b) → false ≡ b
no true t = absurd t
no false t = refl

-- ---- letters and digits: computed over the spans that the ranges leave

-- the code's table of letters and digits, tested at every byte
abbrev alike : Bool → Bool → Bool
alike true b = b
alike false b = not b

alike_same : (a b : Bool) → T (alike a b) → a ≡ b
alike_same true b t = yes b t
alike_same false b t = no b t

abbrev in_table : ℕ → Bool
in_table b = eqb (get_or (287948901175001088 ∷ 576460745995190270 ∷ []) (b / 64) 0 / 2 ^ (b % 64) % 2) 1

pub word_byte : (b : ℕ) → b < 128 → in_table b ≡ (is_letter b || is_digit b)
word_byte b h = alike_same (in_table b) (is_letter b || is_digit b) (span (λ b. alike (in_table b) (is_letter b || is_digit b)) 0 128 tt b (omega arith) h)

-- ---- a test of every word, from the front

module _ (P : ℕ → Bool) (l : List ℕ) where
  pub every_next : (i : ℕ) → i < length l → P (get_or l i 0) ≡ true → every P l ≡ every P (drop i l) → every P l ≡ every P (drop (i + 1) l)
  unfolding every
  every_next i h e q = q ∙ rw (drop-cons l i 0 h, e, add-one i)

  pub every_stop : (i : ℕ) → i < length l → P (get_or l i 0) ≡ false → every P l ≡ every P (drop i l) → false ≡ every P l
  unfolding every
  every_stop i h e q = sym (q ∙ rw (drop-cons l i 0 h, e))

  pub every_end : (i : ℕ) → length l ≤ i → every P l ≡ every P (drop i l) → true ≡ every P l
  unfolding every
  every_end i h q = sym (q ∙ rw (drop_of_length-le l {i = i} h))

-- `all` of a test of words
pub every_is : (P : ℕ → Bool) (l : List ℕ) → list_all P l ≡ every P l
unfolding every
every_is P [] = refl
every_is P (x ∷ l) = ap (λ (b : Bool). P x && b) (every_is P l)

-- ---- names

pub name_by :
    (s : List ℕ)
    → is_name s
    ≡ (not (eqb (length s) 0) && (is_letter (get_or s 0 0) && (every (λ c. is_letter c || is_digit c) (drop 1 s) && (leb (length s) 32 && not (is_made s)))))
unfolding is_name
name_by [] = refl
name_by (b ∷ l) = rw (ne_eqb (suc (length l)) 0 (λ e. omega arith))

pub made_by :
    (s : List ℕ)
    → is_made s
    ≡ (leb 4 (length s) && (eqb (get_or s 0 0) 95 && (eqb (get_or s 1 0) 95 && ((eqb (get_or s 2 0) 120 || eqb (get_or s 2 0) 109) && every is_digit (drop 3 s)))))
unfolding is_made
made_by [] = refl
made_by (a ∷ []) = refl
made_by (a ∷ (b ∷ [])) = refl
made_by (a ∷ (b ∷ (c ∷ []))) = refl
made_by (a ∷ (b ∷ (c ∷ (d ∷ l)))) = let h : 4 ≤ suc (suc (suc (suc (length l)))) = omega arith in rw (le-leb 4 (suc (suc (suc (suc (length l))))) h)

-- ---- parts of a slice

pub rest : (n : ℕ) (l : List ℕ) → take (length l - n) (drop n l) ≡ drop n l
rest n l = take_all (length l - n) (drop n l) (let e = length-drop n l in omega arith)

pub back : (a n : ℕ) → (a + n) - a ≡ n
back a n = omega arith
