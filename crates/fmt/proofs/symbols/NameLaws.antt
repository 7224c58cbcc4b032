-- A symbol's text by its code: a name from its node row, or the letters of a made name and its number. Assumes nothing.
use Prim.Native.Nat.{ℕ, zero, suc, ◌+◌, ◌-◌, ◌*◌, ◌/◌, ◌%◌, ◌≤◌, ◌<◌, min}
use mathlib.Core.Path.{◌≡◌, refl, sym, ap, ap₂, ◌∙◌}
use mathlib.Core.Bool.{Bool, true, false}
use mathlib.Core.List.{List, [], ◌∷◌, ◌++◌}
use native.Mathlib.Nat.{div-mul-le_self}
use native.Mathlib.Omega.{arith}
use borrow.Author.Tests.{ltb-false, ltb-true}
use lib.IntN.{pos}
use lib.Dec.{ltb}
use lib.ListN.{length, get_or, take, drop, length-take, length-drop, get_or-eq_default}
use lib.Seq.{take-add, drop_at, drop-drop, get_or-take, get_or-drop}
use Rattle.spec_tree.specs.Bytes.{digits, decimal}
use Rattle.spec_tree.specs.Rows.{row_const}
use Rattle.spec_tree.specs.Layout.{row_by, row_of, rows_of}
use Rattle.spec_tree.specs.Tokens.{name_of_row, name_in, name_by}
use Rattle.spec_tree.proofs.TokenLaws.{map_append}
use Rattle.spec_tree.specs.text.Text.{name_text}
use Rattle.fmt.specs.emit.Writing.{Writes, low_bytes}
use Rattle.fmt.specs.symbols.Symbols.{row_name, symbol_text}
use Rattle.fmt.proofs.emit.WriteLaws.{writes_then}
use Rattle.spec_tree.proofs.LayoutLaws.{rows_long}
use Rattle.node_rows.specs.unfolded.Unfold.{words_at}
use Rattle.node_rows.proofs.unfolded.RowLaws.{rows_of_at}

-- ---- a row's words

take_min : (n m : ℕ) (l : List ℕ) → take n (take m l) ≡ take (min n m) l
take_min zero m l = ap (λ (k : ℕ). take k l) (let e : 0 ≡ min 0 m = omega arith in e)
take_min (suc n) zero l = ap (λ (k : ℕ). take k l) (let e : 0 ≡ min (suc n) 0 = omega arith in e)
take_min (suc n) (suc m) [] = sym (none (min (suc n) (suc m)))
  where
    none : (k : ℕ) → ◌≡◌ {A = List ℕ} (take k []) []
    none zero = refl
    none (suc k) = refl
take_min (suc n) (suc m) (a ∷ l) =
    ap (λ (r : List ℕ). a ∷ r) (take_min n m l) ∙ ap (λ (k : ℕ). take k (a ∷ l)) (let e : suc (min n m) ≡ min (suc n) (suc m) = omega arith in e)

drop_take : (l : List ℕ) → 3 ≤ length l → drop 3 (take 35 l) ≡ take 32 (drop 3 l)
drop_take l h = ap (drop 3) (take-add 3 32 l) ∙ drop_at (take 3 l) (take 32 (drop 3 l)) 3 (length-take 3 l ∙ omega arith)

-- ---- the name in a row

other_name : (k : ℕ) (s : List ℕ) → 0 < k → name_of_row (row_by k s) ≡ []
unfolding name_of_row row_by
other_name zero s h = absurd (omega arith)
other_name (suc zero) s h = refl
other_name (suc (suc k)) s h = refl

own_name : (k : ℕ) (s : List ℕ) → k ≡ 0 → name_of_row (row_by k s) ≡ s
unfolding name_of_row row_by
own_name zero s h = refl
own_name (suc k) s h = absurd (omega arith)

module _ (ws : List ℕ) (n : ℕ) where
  pub name_past : length ws / 35 ≤ n → row_name ws n ≡ []
  unfolding row_name name_in name_of_row
  name_past h = ap name_of_row (get_or-eq_default (rows_of (length ws / 35) ws) (row_const (pos 0)) (let l = rows_long (length ws / 35) ws in omega arith))

  abbrev pub number : ℕ
  number = get_or ws (n * 35) 0 + get_or ws (n * 35 + 1) 0

  abbrev pub fields : List ℕ
  fields = take (min (get_or ws (n * 35 + 2) 0) 32) (drop (n * 35 + 3) ws)

  name_is : n < length ws / 35 → row_name ws n ≡ name_of_row (row_by number fields)
  unfolding row_name name_in row_of words_at
  name_is h =
      ap name_of_row (rows_of_at (length ws / 35) ws n (row_const (pos 0)) h)
      ∙ ap name_of_row (ap₂ row_by (ap₂ ◌+◌ (word 0 (omega arith) ∙ ap (λ (i : ℕ). get_or ws i 0) (let e : n * 35 + 0 ≡ n * 35 = omega arith in e)) (word 1 (omega arith))) (ap₂ take (word 2 (omega arith)) (drop_take (drop (n * 35) ws) long ∙ ap (take 32) (drop-drop 3 (n * 35) ws)) ∙ take_min (get_or ws (n * 35 + 2) 0) 32 (drop (n * 35 + 3) ws)))
    where
      inside : n * 35 + 35 ≤ length ws
      inside = let d = div-mul-le_self (length ws) 35 in omega arith

      long : 3 ≤ length (drop (n * 35) ws)
      long = omega (arith, length-drop (n * 35) ws, inside)

      word : (i : ℕ) → i < 35 → get_or (words_at ws n) i 0 ≡ get_or ws (n * 35 + i) 0
      word i h = get_or-take 35 (drop (n * 35) ws) i 0 h ∙ get_or-drop (n * 35) ws i 0

  -- what `row_name` answers
  pub no_name : n < length ws / 35 → 0 < number → row_name ws n ≡ []
  no_name h k = name_is h ∙ other_name number fields k

  pub name_held :
      n < length ws / 35 → number ≡ 0 → (count : ℕ) → count ≡ min (get_or ws (n * 35 + 2) 0) 32
      → take (n * 35 + 3 + count - (n * 35 + 3)) (drop (n * 35 + 3) ws) ≡ row_name ws n
  name_held h k count c =
      let e : n * 35 + 3 + count - (n * 35 + 3) ≡ min (get_or ws (n * 35 + 2) 0) 32 = omega arith in
      ap (λ (i : ℕ). take i (drop (n * 35 + 3) ws)) e ∙ sym (name_is h ∙ own_name number fields k)

-- ---- bytes

pub low_append : (a b : List ℕ) → low_bytes (a ++ b) ≡ low_bytes a ++ low_bytes b
unfolding low_bytes
low_append a b = map_append (λ w. w % 256) a b

pub low_one : (b : ℕ) → b < 256 → low_bytes (b ∷ []) ≡ b ∷ []
unfolding low_bytes
low_one b h = ap (λ (c : ℕ). c ∷ []) (let e : b % 256 ≡ b = omega arith in e)

low_digits : (f n : ℕ) → n ≤ f → low_bytes (digits f n) ≡ digits f n
unfolding digits
low_digits zero n h = low_one (48 + n) (omega arith)
low_digits (suc f) n h = go (ltb n 10) refl (λ l. low_digits f (n / 10) (omega arith))
  where
    go : (b : Bool) → ltb n 10 ≡ b → (10 ≤ n → low_bytes (digits f (n / 10)) ≡ digits f (n / 10))
        → ◌≡◌ {A = List ℕ} (low_bytes (elim b [ true ↦ (48 + n) ∷ [] | false ↦ digits f (n / 10) ++ ((48 + n % 10) ∷ []) ])) (elim b [ true ↦ (48 + n) ∷ [] | false ↦ digits f (n / 10) ++ ((48 + n % 10) ∷ []) ])
    go true e i = low_one (48 + n) (let l = ltb-true n 10 e in omega arith)
    go false e i = low_append (digits f (n / 10)) ((48 + n % 10) ∷ []) ∙ ap₂ ◌++◌ (i (ltb-false n 10 e)) (low_one (48 + n % 10) (omega arith))

pub low_decimal : (n : ℕ) → low_bytes (decimal n) ≡ decimal n
unfolding decimal
low_decimal n = low_digits n n (omega arith)

-- ---- what put_name leaves

-- a class is 0, 1 or 2
pub made_text : (ws : List ℕ) (code : ℕ) → code % 3 ≡ 1 → symbol_text ws code ≡ 95 ∷ (95 ∷ (120 ∷ decimal (code / 3)))
unfolding symbol_text name_by name_text
made_text ws code h = rw h

match_text : (ws : List ℕ) (code : ℕ) → code % 3 ≡ 2 → symbol_text ws code ≡ 95 ∷ (95 ∷ (109 ∷ decimal (code / 3)))
unfolding symbol_text name_by name_text
match_text ws code h = rw h

list_text : (ws : List ℕ) (code : ℕ) → code % 3 ≡ 0 → symbol_text ws code ≡ row_name ws (code / 3)
unfolding symbol_text name_by name_text
list_text ws code h = rw h

pub low_made : (a b c n : ℕ) → a < 256 → b < 256 → c < 256 → low_bytes (a ∷ (b ∷ (c ∷ decimal n))) ≡ a ∷ (b ∷ (c ∷ decimal n))
low_made a b c n h k l =
    low_append (a ∷ (b ∷ (c ∷ []))) (decimal n)
    ∙ ap₂ ◌++◌ (low_append (a ∷ []) (b ∷ (c ∷ [])) ∙ ap₂ ◌++◌ (low_one a h) (low_append (b ∷ []) (c ∷ []) ∙ ap₂ ◌++◌ (low_one b k) (low_one c l))) (low_decimal n)

module _ {dry : Bool} {old : List ℕ} {to : ℕ} (ws : List ℕ) (code : ℕ) where
  pub list_written : {new : List ℕ} {e : ℕ} → code % 3 ≡ 0 → Writes dry old to (low_bytes (row_name ws (code / 3))) new e → Writes dry old to (low_bytes (symbol_text ws code)) new e
  list_written h p = rw (list_text ws code h) p

  pub made_written :
      {mid new : List ℕ} {at e : ℕ} → code % 3 ≡ 1 → Writes dry old to (95 ∷ (95 ∷ (120 ∷ []))) mid at → Writes dry mid at (decimal (code / 3)) new e
      → Writes dry old to (low_bytes (symbol_text ws code)) new e
  made_written h p q = rw (made_text ws code h, low_made 95 95 120 (code / 3) (omega arith) (omega arith) (omega arith)) (writes_then p q)

  pub match_written :
      {mid new : List ℕ} {at e : ℕ} → code % 3 ≡ 2 → Writes dry old to (95 ∷ (95 ∷ (109 ∷ []))) mid at → Writes dry mid at (decimal (code / 3)) new e
      → Writes dry old to (low_bytes (symbol_text ws code)) new e
  match_written h p q = rw (match_text ws code h, low_made 95 95 109 (code / 3) (omega arith) (omega arith) (omega arith)) (writes_then p q)
