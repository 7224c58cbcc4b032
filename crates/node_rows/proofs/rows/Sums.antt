-- The loops over operands or roots: sizes summed and levels compared, from the front. Assumes nothing.
use Prim.Native.Nat.{ℕ, zero, suc, ◌+◌, ◌-◌, ◌≤◌, ◌<◌, max}
use mathlib.Core.Path.{◌≡◌, refl, ap}
use mathlib.Core.Bool.{Bool, true, false, cond}
use mathlib.Core.List.{List, [], ◌∷◌}
use native.Mathlib.Omega.{arith}
use native.Mathlib.Numerals.{add-one}
use borrow.Author.Tests.{lt-leb, le-leb}
use lib.Dec.{T, ltb, ltb→lt, lt→ltb}
use lib.ListN.{length, get_or, take, drop, drop_of_length-le}
use lib.Seq.{drop-cons}
use Rattle.spec_tree.specs.Bytes.{every}
use Rattle.spec_tree.specs.Kinds.{is_switch}
use Rattle.spec_tree.specs.Facts.{total, greatest, first_or_deeper}
use Rattle.spec_tree.proofs.Logic.{and_left, and_right, and_both}
use Rattle.node_rows.specs.fields.Below.{below}
use Rattle.node_rows.specs.rows.Measure.{pick, capped_size, capped_level, level_by, row_operands}
use Rattle.node_rows.proofs.names.Leaves.{rest, back}

-- ---- numbers below a bound

pub number_below : (n : ℕ) (l : List ℕ) (i : ℕ) → T (below n l) → i < length l → get_or l i 0 < n
unfolding every
number_below n [] i t h = absurd (omega arith)
number_below n (k ∷ l) zero t h = ltb→lt k n (and_left (ltb k n) (below n l) t)
number_below n (k ∷ l) (suc i) t h = number_below n l i (and_right (ltb k n) (below n l) t) (omega arith)

pub below_less : (m n : ℕ) → m ≤ n → (l : List ℕ) → T (below m l) → T (below n l)
unfolding every
below_less m n h [] t = tt
below_less m n h (i ∷ l) t =
    and_both (ltb i n) (below n l) (lt→ltb i n (let q = ltb→lt i m (and_left (ltb i m) (below m l) t) in omega arith))
    (below_less m n h l (and_right (ltb i m) (below m l) t))

pub below_drop : (n i : ℕ) (l : List ℕ) → T (below n l) → T (below n (drop i l))
unfolding every
below_drop n zero l t = t
below_drop n (suc i) [] t = t
below_drop n (suc i) (k ∷ l) t = below_drop n i l (and_right (ltb k n) (below n l) t)

-- ---- one number more

pick_next : (xs ns : List ℕ) (i : ℕ) → i < length ns → pick xs (drop i ns) ≡ get_or xs (get_or ns i 0) 0 ∷ pick xs (drop (i + 1) ns)
unfolding pick
pick_next xs ns i h = rw (drop-cons ns i 0 h, add-one i)

pick_end : (xs ns : List ℕ) (i : ℕ) → length ns ≤ i → pick xs (drop i ns) ≡ []
unfolding pick
pick_end xs ns i h = rw (drop_of_length-le ns {i = i} h)

pub record Summing (sizes numbers : List ℕ) (sum i : ℕ) : Type 0 where
  pub inside : i ≤ length numbers
  pub small : sum ≤ 1025
  pub left : capped_size (total (pick sizes numbers)) ≡ capped_size (sum + total (pick sizes (drop i numbers)))

pub summing_next :
    {sizes numbers : List ℕ} {sum i : ℕ} → Summing sizes numbers sum i → i < length numbers → (next : ℕ)
    → next ≡ capped_size (sum + get_or sizes (get_or numbers i 0) 0) → Summing sizes numbers next (i + 1)
unfolding total
summing_next {sizes} {numbers} {sum} {i} s h next e =
    let p : total (pick sizes (drop i numbers)) ≡ get_or sizes (get_or numbers i 0) 0 + total (pick sizes (drop (i + 1) numbers)) = ap total (pick_next sizes numbers i h) in
    let q = s.left in
    record { inside = omega arith; small = omega arith; left = omega arith }

pub summing_end : {sizes numbers : List ℕ} {sum i : ℕ} → Summing sizes numbers sum i → length numbers ≤ i → sum ≡ capped_size (total (pick sizes numbers))
unfolding total
summing_end {sizes} {numbers} {sum} {i} s h =
    let p : total (pick sizes (drop i numbers)) ≡ 0 = ap total (pick_end sizes numbers i h) in
    let q = s.left in
    let r = s.small in
    omega arith

pub record Deepening (levels numbers : List ℕ) (level i : ℕ) : Type 0 where
  pub inside : i ≤ length numbers
  pub left : greatest (pick levels numbers) ≡ max level (greatest (pick levels (drop i numbers)))

pub deepening_next :
    {levels numbers : List ℕ} {level i : ℕ} → Deepening levels numbers level i → i < length numbers → (next : ℕ)
    → next ≡ max level (get_or levels (get_or numbers i 0) 0) → Deepening levels numbers next (i + 1)
unfolding greatest
deepening_next {levels} {numbers} {level} {i} s h next e =
    let p : greatest (pick levels (drop i numbers)) ≡ max (get_or levels (get_or numbers i 0) 0) (greatest (pick levels (drop (i + 1) numbers))) =
    ap greatest (pick_next levels numbers i h) in
    let q = s.left in
    record { inside = omega arith; left = omega arith }

pub deepening_end : {levels numbers : List ℕ} {level i : ℕ} → Deepening levels numbers level i → length numbers ≤ i → level ≡ greatest (pick levels numbers)
unfolding greatest
deepening_end {levels} {numbers} {level} {i} s h =
    let p : greatest (pick levels (drop i numbers)) ≡ 0 = ap greatest (pick_end levels numbers i h) in
    let q = s.left in
    omega arith

-- ---- the level of a node from those of its operands

pub level_plain : (k : ℕ) (levels : List ℕ) → k < 26 → level_by k levels ≡ greatest levels
unfolding level_by
level_plain k levels h = rw (lt-leb 26 k h)

pub level_few : (k : ℕ) (levels ns : List ℕ) → length ns < 2 → level_by k (pick levels ns) ≡ greatest (pick levels ns)
unfolding level_by pick first_or_deeper greatest
level_few k levels [] h = go (is_switch k)
  where
    go : (b : Bool) → cond b (first_or_deeper []) (greatest []) ≡ greatest []
    go true = refl
    go false = refl
level_few k levels (n ∷ []) h = go (is_switch k)
  where
    go : (b : Bool) → cond b (first_or_deeper (get_or levels n 0 ∷ [])) (greatest (get_or levels n 0 ∷ [])) ≡ greatest (get_or levels n 0 ∷ [])
    go true = omega arith
    go false = refl
level_few k levels (n ∷ (m ∷ ns)) h = absurd (omega arith)

pub level_arms :
    (k : ℕ) (levels ns : List ℕ) → 26 ≤ k → 2 ≤ length ns
    → level_by k (pick levels ns) ≡ max (get_or levels (get_or ns 0 0) 0) (suc (greatest (pick levels (drop 1 ns))))
unfolding level_by pick first_or_deeper greatest
level_arms k levels [] g h = absurd (omega arith)
level_arms k levels (n ∷ []) g h = absurd (omega arith)
level_arms k levels (n ∷ (m ∷ ns)) g h = rw (le-leb 26 k g)

module _ (k : ℕ) (levels ns : List ℕ) where
  pub level_end_plain : k < 26 → (d r : ℕ) → d ≡ greatest (pick levels ns) → r ≡ capped_level d → r ≡ capped_level (level_by k (pick levels ns))
  level_end_plain h d r e q = let p = level_plain k (pick levels ns) h in omega arith

  pub level_end_few : length ns < 2 → (d r : ℕ) → d ≡ greatest (pick levels ns) → r ≡ capped_level d → r ≡ capped_level (level_by k (pick levels ns))
  level_end_few h d r e q = let p = level_few k levels ns h in omega arith

  pub level_end_arms :
      26 ≤ k → 2 ≤ length ns → (d a m r : ℕ) → d ≡ greatest (pick levels (take (length ns - 1) (drop 1 ns))) → a ≡ capped_level d
      → m ≡ max (get_or levels (get_or ns 0 0) 0) (a + 1) → r ≡ capped_level m → r ≡ capped_level (level_by k (pick levels ns))
  level_end_arms g h d a m r e₁ e₂ e₃ e₄ =
      let p = level_arms k levels ns g h in
      let q : d ≡ greatest (pick levels (drop 1 ns)) = rw rest at e₁ in
      omega arith

pub below_rest : (n : ℕ) (ns : List ℕ) → T (below n ns) → T (below n (take (length ns - 1) (drop 1 ns)))
below_rest n ns t = rw (rest 1 ns) (below_drop n 1 ns t)

-- ---- the operands in a row's words

pub operands_leaf : (w : List ℕ) → get_or w 0 0 < 2 → row_operands w ≡ []
unfolding row_operands
operands_leaf w h = rw (lt-leb 2 (get_or w 0 0) h)

pub operands_op : (w : List ℕ) → 2 ≤ get_or w 0 0 → row_operands w ≡ take (3 + get_or w 2 0 - 3) (drop 3 w)
unfolding row_operands
operands_op w h = rw (le-leb 2 (get_or w 0 0) h, back 3 (get_or w 2 0))

module _ (w sizes levels : List ℕ) where
  abbrev pub Measures : ℕ → ℕ → Type 0
  Measures s l = (s ≡ capped_size (suc (total (pick sizes (row_operands w))))) × (l ≡ capped_level (level_by (get_or w 0 0) (pick levels (row_operands w))))

  pub measure_leaf : get_or w 0 0 < 2 → Measures 1 0
  unfolding pick total greatest
  measure_leaf h = rw (operands_leaf w h, level_plain (get_or w 0 0) [] (omega arith)) (refl, refl)

  pub measure_op :
      2 ≤ get_or w 0 0 → (b s l : ℕ) → b ≡ capped_size (total (pick sizes (take (3 + get_or w 2 0 - 3) (drop 3 w)))) → s ≡ capped_size (1 + b)
      → l ≡ capped_level (level_by (get_or w 0 0) (pick levels (take (3 + get_or w 2 0 - 3) (drop 3 w)))) → Measures s l
  measure_op h b s l e₁ e₂ e₃ = rw (operands_op w h) (omega arith, e₃)
