-- How words are put one after another, and rows of names: what the loops keep, over plain lists. Assumes nothing.
use Prim.Native.Nat.{ℕ, zero, suc, ◌+◌, ◌*◌, ◌-◌, ◌≤◌, ◌<◌, min}
use native.Mathlib.Omega.{arith}
use borrow.Author.Tests.{leb-true, leb-false}
use mathlib.Core.Path.{◌≡◌, refl, sym, ◌∙◌, ap, subst}
use mathlib.Core.Bool.{Bool, true, false, ◌&&◌}
use mathlib.Core.List.{List, [], ◌∷◌}
use lib.ListN.{length, get_or, take, drop, set, take-append-drop}
use lib.Seq.{length-take-le, take-suc, take-length}
use lib.Dec.{T, leb, leb→le}
use Rattle.fusion.specs.place.Overlay.{overlay}
use Rattle.fusion.specs.place.Parts.{name_rows}
use Rattle.fusion.specs.tables.Names.{row_of_name, rows_of_names, names_fit, names_put}
use Rattle.fusion.proofs.tables.Laws.{overlay_none, overlay_past, overlay_word, overlay_append, overlay_length}

-- ---- one word

pub word_put : (at w : ℕ) (old : List ℕ) → set old at w ≡ overlay at (w ∷ []) old
word_put at w old = sym (overlay_word at w old)

pub word_past : (at w : ℕ) (old : List ℕ) → length old ≤ at → old ≡ overlay at (w ∷ []) old
word_past at w old h = sym (overlay_past at (w ∷ []) old h)

-- ---- one word after another

-- the first i words are put, which is all that goes in where there is no more room
abbrev pub Put : List ℕ → ℕ → List ℕ → List ℕ → ℕ → Type 0
Put ws at old out i = (i ≤ length ws) × ((at + i ≤ length old) × (out ≡ overlay at (take i ws) old))

pub put_starts : (ws old : List ℕ) (at : ℕ) → at ≤ length old → Put ws at old old 0
put_starts ws old at h = (omega arith, (omega arith, sym (overlay_none at old)))

module _ (ws old out : List ℕ) (at i : ℕ) (state : Put ws at old out i) where
  pub put_long : length out ≡ length old
  put_long = ap length state.1.1 ∙ overlay_length at (take i ws) old

  pub put_turns : i < length ws → at + i < length old → Put ws at old (set out (at + i) (get_or ws i 0)) (i + 1)
  put_turns h k =
      let n : suc i ≡ i + 1 = omega arith in
      let w = get_or ws i 0 in (
        omega arith,
        (
          omega arith,
          sym (ap (λ (j : ℕ). overlay at (take j ws) old) (sym n)
              ∙ (ap (λ (l : List ℕ). overlay at l old) (take-suc ws i 0 h)
              ∙ (overlay_append at (take i ws) (w ∷ []) old
              ∙ (ap (λ (j : ℕ). overlay (at + j) (w ∷ []) (overlay at (take i ws) old)) (length-take-le i ws (omega arith))
              ∙ (ap (λ (l : List ℕ). overlay (at + i) (w ∷ []) l) (sym state.1.1) ∙ overlay_word (at + i) w out))))),
        ),
      )

  -- the rest is past the end
  pub put_full : length old ≤ at + i → out ≡ overlay at ws old
  put_full h =
      state.1.1
      ∙ (sym (overlay_past (at + i) (drop i ws) (overlay at (take i ws) old) (omega (arith, overlay_length at (take i ws) old)))
      ∙ (ap (λ (j : ℕ). overlay (at + j) (drop i ws) (overlay at (take i ws) old)) (sym (length-take-le i ws state.0))
      ∙ (sym (overlay_append at (take i ws) (drop i ws) old) ∙ ap (λ (l : List ℕ). overlay at l old) (take-append-drop i ws))))

  pub put_ends : length ws ≤ i → out ≡ overlay at ws old
  put_ends h =
      let n : i ≡ length ws = omega (arith, state.0) in
      state.1.1 ∙ (ap (λ (j : ℕ). overlay at (take j ws) old) n ∙ ap (λ (l : List ℕ). overlay at l old) (take-length ws))

  -- all, or as many as there is room for
  pub words_put : i ≡ min (length ws) (length old - at) → at ≤ length old → out ≡ overlay at ws old
  words_put e h = go (leb (length ws) i) refl
    where
      go : (b : Bool) → leb (length ws) i ≡ b → out ≡ overlay at ws old
      go true q = put_ends (leb-true (length ws) i q)
      go false q = put_full (omega (arith, leb-false (length ws) i q, e))

-- ---- rows of names

pub rows_long : (l : List ℕ) → length (rows_of_names l) ≡ length l
unfolding rows_of_names
rows_long [] = refl
rows_long (n ∷ l) = ap suc (rows_long l)

row_is : (n : ℕ) → row_of_name n ≡ 161 + 192 * n
unfolding row_of_name
row_is n = omega arith

pub rows_at : (l : List ℕ) (i : ℕ) → i < length l → get_or (rows_of_names l) i 0 ≡ 161 + 192 * get_or l i 0
unfolding rows_of_names
rows_at [] i h = absurd (omega arith)
rows_at (n ∷ l) zero h = row_is n
rows_at (n ∷ l) (suc i) h = rows_at l i (omega arith)

-- as the pivot has them, whatever the scope
pub rows_named : (hs : List ℕ) (gs : List (List ℕ)) (numbers l : List ℕ) → name_rows hs gs numbers l ≡ rows_of_names l
unfolding name_rows rows_of_names row_of_name
rows_named hs gs numbers [] = refl
rows_named hs gs numbers (n ∷ l) = ap (λ (r : List ℕ). row_of_name n ∷ r) (rows_named hs gs numbers l)

module _ (numbers old out : List ℕ) (at i : ℕ) (state : Put (rows_of_names numbers) at old out i) where
  pub row_turns : i < length numbers → at + i < length old → Put (rows_of_names numbers) at old (set out (at + i) (161 + 192 * get_or numbers i 0)) (i + 1)
  row_turns h k =
      rw (sym (rows_at numbers i h)) (put_turns (rows_of_names numbers) old out at i state (omega (arith, h, rows_long numbers)) k)

  -- all, or as many as there is room for
  pub rows_put : i ≡ min (length numbers) (length old - at) → at ≤ length old → out ≡ overlay at (rows_of_names numbers) old
  rows_put e h = go (leb (length numbers) i) refl
    where
      go : (b : Bool) → leb (length numbers) i ≡ b → out ≡ overlay at (rows_of_names numbers) old
      go true q = put_ends (rows_of_names numbers) old out at i state (omega (arith, leb-true (length numbers) i q, rows_long numbers))
      go false q = put_full (rows_of_names numbers) old out at i state (omega (arith, leb-false (length numbers) i q, e))

-- ---- which numbers have one

first_fits : (n : ℕ) (b : Bool) → leb n 549755813888 && b ≡ true → (n ≤ 549755813888) × (b ≡ true)
first_fits n b e = go (leb n 549755813888) refl e
  where
    go : (q : Bool) → leb n 549755813888 ≡ q → q && b ≡ true → (n ≤ 549755813888) × (b ≡ true)
    go true s t = (leb→le n 549755813888 (subst T (sym s) tt), t)
    go false s t = absurd (subst T (sym t) tt)

pub number_fits : (l : List ℕ) (i : ℕ) → names_fit l ≡ true → get_or l i 0 ≤ 549755813888
unfolding names_fit
number_fits [] i e = omega arith
number_fits (n ∷ l) zero e = (first_fits n (names_fit l) e).0
number_fits (n ∷ l) (suc i) e = number_fits l i (first_fits n (names_fit l) e).1

-- ---- the answers

pub names_written :
    (numbers old out : List ℕ) (at : ℕ) (r : Bool) → r ≡ names_fit numbers → r ≡ true → out ≡ overlay at (rows_of_names numbers) old
    → (r ≡ names_fit numbers) × (out ≡ names_put (names_fit numbers) numbers at old)
unfolding names_put
names_written numbers old out at r e t o = (e, o ∙ ap (λ (b : Bool). names_put b numbers at old) (sym t ∙ e))

pub names_kept :
    (numbers old : List ℕ) (at : ℕ) (r : Bool) → r ≡ names_fit numbers → r ≡ false → (r ≡ names_fit numbers) × (old ≡ names_put (names_fit numbers) numbers at old)
unfolding names_put
names_kept numbers old at r e t = (e, ap (λ (b : Bool). names_put b numbers at old) (sym t ∙ e))
