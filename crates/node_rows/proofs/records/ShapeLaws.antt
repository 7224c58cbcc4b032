-- A test of a table's form, and what it says of each row. Assumes nothing.
use Prim.Native.Nat.{ℕ, zero, suc, ◌+◌, ◌-◌, ◌*◌, ◌/◌, ◌≤◌, ◌<◌}
use mathlib.Core.Path.{◌≡◌, ap, ◌∙◌, subst}
use mathlib.Core.Bool.{Bool, true, ◌&&◌, ◌||◌, not}
use mathlib.Core.List.{List}
use native.Mathlib.Omega.{arith}
use borrow.Author.Tests.{eq-eqb}
use lib.Dec.{T, eqb, leb, ltb, leb→le, ltb→lt, eqb→eq}
use lib.ListN.{length, get_or, take, drop, length-take, length-drop}
use lib.Seq.{drop-drop}
use Rattle.spec_tree.proofs.Logic.{and_left, and_right}
use Rattle.node_rows.specs.records.Shape.{Shape, Shapes}

-- a kind of 01 with or without default, at most 32 fields, and at least two of a constant
unfoldable pub row_shaped : List ℕ → Bool
row_shaped row =
    leb (get_or row 0 0) 28
    && (leb (get_or row 1 0) (28 - get_or row 0 0) && (leb (get_or row 2 0) 32 && (not (eqb (get_or row 0 0 + get_or row 1 0) 1) || ltb 1 (get_or row 2 0))))

unfoldable pub each_shaped : ℕ → List ℕ → Bool
unfolding row_shaped
each_shaped zero ws = true
each_shaped (suc n) ws = row_shaped (take 35 ws) && each_shaped n (drop 35 ws)

unfoldable pub shaped : List ℕ → List ℕ → Bool
unfolding each_shaped
shaped ws roots =
    eqb (length ws) (35 * (length ws / 35)) && (leb (length ws / 35) 1024 && (leb (length roots) 64 && each_shaped (length ws / 35) ws))

module _ (row : List ℕ) where
  abbrev kind : ℕ
  kind = get_or row 0 0

  abbrev default : ℕ
  default = get_or row 1 0

  abbrev count : ℕ
  count = get_or row 2 0

  shape_of : length row ≡ 35 → T (row_shaped row) → Shape row
  unfolding row_shaped
  shape_of wide h =
      let last = not (eqb (kind + default) 1) || ltb 1 count in
      let q = and_right (leb kind 28) (leb default (28 - kind) && (leb count 32 && last)) h in
      let r = and_right (leb default (28 - kind)) (leb count 32 && last) q in
      let a = leb→le kind 28 (and_left (leb kind 28) (leb default (28 - kind) && (leb count 32 && last)) h) in
      let b = leb→le default (28 - kind) (and_left (leb default (28 - kind)) (leb count 32 && last) q) in
      record {
        wide = wide;
        kind_small = omega arith;
        few = leb→le count 32 (and_left (leb count 32) last r);
        constant = λ e. two e (and_right (leb count 32) last r);
      }
    where
      two : kind + default ≡ 1 → T (not (eqb (kind + default) 1) || ltb 1 count) → 2 ≤ count
      two e t = ltb→lt 1 count (subst (λ (b : Bool). T (not b || ltb 1 count)) (eq-eqb (kind + default) 1 e) t)

each_at : (n : ℕ) (ws : List ℕ) → T (each_shaped n ws) → (i : ℕ) → i < n → T (row_shaped (take 35 (drop (35 * i) ws)))
unfolding each_shaped
each_at zero ws t i h = absurd (omega arith)
each_at (suc n) ws t zero h = and_left (row_shaped (take 35 ws)) (each_shaped n (drop 35 ws)) t
each_at (suc n) ws t (suc i) h =
    subst (λ (l : List ℕ). T (row_shaped (take 35 l))) (drop-drop (35 * i) 35 ws ∙ ap (λ (m : ℕ). drop m ws) (let e : 35 + 35 * i ≡ 35 * suc i = omega arith in e))
    (each_at n (drop 35 ws) (and_right (row_shaped (take 35 ws)) (each_shaped n (drop 35 ws)) t) i (omega arith))

shapes_of : (ws : List ℕ) → length ws ≡ 35 * (length ws / 35) → length ws / 35 ≤ 1024 → T (each_shaped (length ws / 35) ws) → Shapes ws
shapes_of ws whole few t =
    record {
      whole = whole;
      few_rows = few;
      each_row = λ i h. shape_of (take 35 (drop (35 * i) ws)) (rw (length-take, length-drop) (omega arith)) (each_at (length ws / 35) ws t i h);
    }

pub all_shapes : (ws roots : List ℕ) → T (shaped ws roots) → Shapes ws
unfolding shaped
all_shapes ws roots t =
    let n = length ws / 35 in
    let some = leb (length roots) 64 && each_shaped n ws in
    let r = and_right (eqb (length ws) (35 * n)) (leb n 1024 && some) t in
    let u = and_right (leb n 1024) some r in
    shapes_of ws (eqb→eq (length ws) (35 * n) (and_left (eqb (length ws) (35 * n)) (leb n 1024 && some) t)) (leb→le n 1024 (and_left (leb n 1024) some r))
    (and_right (leb (length roots) 64) (each_shaped n ws) u)
