-- The tree of a row that passes its tests: its operands are earlier rows, and its size and nesting follow from theirs. Assumes nothing.
use Prim.Native.Nat.{ℕ, zero, suc, ◌+◌, ◌≤◌, ◌<◌, max}
use mathlib.Core.Path.{◌≡◌, refl, sym, ◌∙◌, ap, ap₂}
use mathlib.Core.Bool.{Bool, true, false, ◌&&◌, cond}
use mathlib.Core.Logic.{◌⊎◌, inl, inr, ⊎_elim}
use mathlib.Core.List.{List, [], ◌∷◌}
use native.Mathlib.Omega.{arith}
use borrow.Author.Tests.{le-leb, ne_eqb}
use lib.Dec.{T, eqb, leb, ltb, eqb→eq, leb→le, ltb→lt}
use lib.ListN.{length, get_or, take, drop}
use Rattle.spec_tree.specs.Bytes.{every}
use Rattle.spec_tree.specs.Kinds.{kind_at, Select, is_switch}
use Rattle.spec_tree.specs.Tree.{Tree, Op, nil, folds, forest}
use Rattle.spec_tree.specs.Facts.{total, greatest, first_or_deeper, size, nesting}
use Rattle.spec_tree.specs.Rows.{at, tree_of_row, occurrences}
use Rattle.spec_tree.specs.Layout.{row_by, row_of}
use Rattle.spec_tree.proofs.Logic.{and_left, and_right}
use Rattle.node_rows.specs.kinds.Numbers.{kind_number}
use Rattle.node_rows.specs.fields.Below.{below}
use Rattle.node_rows.specs.fields.Tests.{plain_test, operation_test, fields_test}
use Rattle.node_rows.specs.rows.Check.{row_test}
use Rattle.node_rows.specs.rows.Measure.{pick, capped_size, capped_level, level_by, row_operands, RowMeasures}
use Rattle.node_rows.proofs.rows.Sums.{operands_leaf}

-- ---- what the tests of a row say

pub operation_below : (k : ℕ) (default : Bool) (f : List ℕ) (i : ℕ) → T (operation_test k default f i) → T (below i f)
unfolding operation_test
operation_below k default f i t =
    and_right (leb (length f) (kind_at (kind_number k default)).most) (below i f)
    (and_right (leb (kind_at (kind_number k default)).fewest (length f)) (leb (length f) (kind_at (kind_number k default)).most && below i f) t)

-- the flag is 0, or 1 at a Select
pub flag_cases : (k d : ℕ) (f : List ℕ) (i : ℕ) → T (fields_test k d f i) → ((d ≡ 0) × T (plain_test k f i)) ⊎ ((d ≡ 1) × ((k ≡ Select) × T (operation_test Select true f i)))
unfolding fields_test
flag_cases k d f i t = go (eqb d 0) (eqb→eq d 0) t
  where
    go : (b : Bool) → (T b → d ≡ 0) → T (cond b (plain_test k f i) (eqb d 1 && (eqb k Select && operation_test Select true f i)))
        → ((d ≡ 0) × T (plain_test k f i)) ⊎ ((d ≡ 1) × ((k ≡ Select) × T (operation_test Select true f i)))
    go true e t = inl (e tt, t)
    go false e t =
        let u = and_right (eqb d 1) (eqb k Select && operation_test Select true f i) t in
        inr
        (eqb→eq d 1 (and_left (eqb d 1) (eqb k Select && operation_test Select true f i) t), (eqb→eq k Select (and_left (eqb k Select) (operation_test Select true f i) u), and_right (eqb k Select) (operation_test Select true f i) u))

plain_below : (k : ℕ) (f : List ℕ) (i : ℕ) → 2 ≤ k → T (plain_test k f i) → T (below i f)
unfolding plain_test
plain_below k f i h t =
    let a : (k ≡ 0) → ⊥ = λ e. omega arith in
    let b : (k ≡ 1) → ⊥ = λ e. omega arith in
    operation_below k false f i (rw (ne_eqb k 0 a, ne_eqb k 1 b) at t)

fields_below : (k d : ℕ) (f : List ℕ) (i : ℕ) → 2 ≤ k → T (fields_test k d f i) → T (below i f)
fields_below k d f i h t = ⊎_elim (λ e. plain_below k f i h e.1) (λ e. operation_below Select true f i e.1.1) (flag_cases k d f i t)

abbrev fields_of : List ℕ → List ℕ
fields_of w = take (get_or w 2 0) (drop 3 w)

abbrev left_over : List ℕ → List ℕ
left_over w = drop (3 + get_or w 2 0) w

pub row_fields_test : (i : ℕ) (w : List ℕ) → T (row_test i w) → T (fields_test (get_or w 0 0) (get_or w 1 0) (fields_of w) i)
unfolding row_test
row_fields_test i w t =
    let F = fields_test (get_or w 0 0) (get_or w 1 0) (fields_of w) i in
    and_right (below 1 (left_over w)) F (and_right (leb (get_or w 2 0) 32) (below 1 (left_over w) && F) t)

pub row_count : (i : ℕ) (w : List ℕ) → T (row_test i w) → get_or w 2 0 ≤ 32
unfolding row_test
row_count i w t =
    leb→le (get_or w 2 0) 32 (and_left (leb (get_or w 2 0) 32) (below 1 (left_over w) && fields_test (get_or w 0 0) (get_or w 1 0) (fields_of w) i) t)

pub operands_below : (i : ℕ) (w : List ℕ) → T (row_test i w) → T (below i (row_operands w))
unfolding row_operands
operands_below i w t = go (leb 2 (get_or w 0 0)) (leb→le 2 (get_or w 0 0))
  where
    go : (b : Bool) → (T b → 2 ≤ get_or w 0 0) → T (below i (cond b (fields_of w) []))
    go true h = fields_below (get_or w 0 0) (get_or w 1 0) (fields_of w) i (h tt) (row_fields_test i w t)
    go false h = (unfold every in tt)

-- ---- its tree

unfoldable pub nestings : List Tree → List ℕ
unfolding nesting
nestings [] = []
nestings (t ∷ l) = nesting t ∷ nestings l

sizes_folded : (l : List Tree) → total (folds (λ n. 1) (λ c. 1) (λ k sizes. suc (total sizes)) (forest l)) ≡ occurrences l
unfolding forest folds total occurrences size
sizes_folded [] = refl
sizes_folded (t ∷ l) = ap (λ (n : ℕ). size t + n) (sizes_folded l)

nestings_folded : (l : List Tree) → folds (λ n. 0) (λ c. 0) (λ k levels. cond (is_switch k) (first_or_deeper levels) (greatest levels)) (forest l) ≡ nestings l
unfolding forest folds nesting nestings
nestings_folded [] = refl
nestings_folded (t ∷ l) = ap (λ (r : List ℕ). nesting t ∷ r) (nestings_folded l)

module _ (ts : List Tree) where
  size_by : (m : ℕ) (f ops : List ℕ) → (m < 2 → ops ≡ []) → (2 ≤ m → ops ≡ f) → size (tree_of_row ts (row_by m f)) ≡ suc (occurrences (at ts ops))
  unfolding tree_of_row row_by size at occurrences
  size_by zero f ops e g = rw (e (omega arith))
  size_by (suc zero) f ops e g = rw (e (omega arith))
  size_by (suc (suc m)) f ops e g = rw (g (omega arith)) (ap suc (sizes_folded (at ts f)))

  nesting_by : (m : ℕ) (f ops : List ℕ) → (m < 2 → ops ≡ []) → (2 ≤ m → ops ≡ f) → nesting (tree_of_row ts (row_by m f)) ≡ level_by m (nestings (at ts ops))
  unfolding tree_of_row row_by nesting at nestings level_by
  nesting_by zero f ops e g = rw (e (omega arith))
  nesting_by (suc zero) f ops e g = rw (e (omega arith))
  nesting_by (suc (suc m)) f ops e g = rw (g (omega arith), nestings_folded (at ts f))

operand_fields : (w : List ℕ) → 2 ≤ get_or w 0 0 → row_operands w ≡ fields_of w
unfolding row_operands
operand_fields w h = rw (le-leb 2 (get_or w 0 0) h)

-- the flag never takes a row from the leaves or to the switches
record Flagged (k d : ℕ) : Type 0 where
  low : k + d < 2 → k < 2
  high : 2 ≤ k + d → 2 ≤ k
  switch : leb 26 (k + d) ≡ leb 26 k

flagged : (k d : ℕ) (f : List ℕ) (i : ℕ) → T (fields_test k d f i) → Flagged k d
flagged k d f i t = ⊎_elim (λ e. plain e.0) (λ e. default e.0 e.1.0) (flag_cases k d f i t)
  where
    plain : d ≡ 0 → Flagged k d
    plain e = record { low = λ h. omega arith; high = λ h. omega arith; switch = ap (λ (m : ℕ). leb 26 m) (let q : k + d ≡ k = omega arith in q) }

    default : d ≡ 1 → k ≡ 27 → Flagged k d
    default e g =
        record {
          low = λ h. absurd (omega arith);
          high = λ h. omega arith;
          switch = le-leb 26 (k + d) (omega arith) ∙ sym (le-leb 26 k (omega arith));
        }

module _ (ts : List Tree) (i : ℕ) (w : List ℕ) (t : T (row_test i w)) where
  row_flagged : Flagged (get_or w 0 0) (get_or w 1 0)
  row_flagged = flagged (get_or w 0 0) (get_or w 1 0) (fields_of w) i (row_fields_test i w t)

  pub row_size : size (tree_of_row ts (row_of w)) ≡ suc (occurrences (at ts (row_operands w)))
  unfolding row_of
  row_size = size_by ts (get_or w 0 0 + get_or w 1 0) (fields_of w) (row_operands w) (λ h. operands_leaf w (row_flagged.low h)) (λ h. operand_fields w (row_flagged.high h))

  pub row_nesting : nesting (tree_of_row ts (row_of w)) ≡ level_by (get_or w 0 0) (nestings (at ts (row_operands w)))
  unfolding row_of level_by
  row_nesting =
      nesting_by ts (get_or w 0 0 + get_or w 1 0) (fields_of w) (row_operands w) (λ h. operands_leaf w (row_flagged.low h)) (λ h. operand_fields w (row_flagged.high h))
      ∙ ap (λ (b : Bool). cond b (first_or_deeper (nestings (at ts (row_operands w)))) (greatest (nestings (at ts (row_operands w))))) row_flagged.switch

-- ---- capped measures of the operands serve as well as the measures

cap_max : (a b : ℕ) → capped_level (max a b) ≡ max (capped_level a) (capped_level b)
cap_max a b = omega arith

cap_suc : (a b : ℕ) → capped_level a ≡ capped_level b → capped_level (suc a) ≡ capped_level (suc b)
cap_suc a b e = omega arith

cap_both : (a b x y : ℕ) → a ≡ capped_level x → capped_level b ≡ capped_level y → capped_level (max a b) ≡ capped_level (max x y)
cap_both a b x y e g = cap_max a b ∙ ap₂ max (again a x e) g ∙ sym (cap_max x y)
  where
    again : (a x : ℕ) → a ≡ capped_level x → capped_level a ≡ capped_level x
    again a x e = omega arith

module _ (ts : List Tree) (sizes levels : List ℕ) (M : RowMeasures ts sizes levels) where
  pub picked_sizes : (ns : List ℕ) → T (below (length ts) ns) → capped_size (total (pick sizes ns)) ≡ capped_size (occurrences (at ts ns))
  unfolding every pick total at occurrences
  picked_sizes [] t = refl
  picked_sizes (n ∷ ns) t =
      let a = M.size_is n (ltb→lt n (length ts) (and_left (ltb n (length ts)) (below (length ts) ns) t)) in
      let b = picked_sizes ns (and_right (ltb n (length ts)) (below (length ts) ns) t) in
      omega arith

  pub picked_levels : (ns : List ℕ) → T (below (length ts) ns) → capped_level (greatest (pick levels ns)) ≡ capped_level (greatest (nestings (at ts ns)))
  unfolding every pick greatest at nestings
  picked_levels [] t = refl
  picked_levels (n ∷ ns) t =
      let a = M.level_is n (ltb→lt n (length ts) (and_left (ltb n (length ts)) (below (length ts) ns) t)) in
      let b = picked_levels ns (and_right (ltb n (length ts)) (below (length ts) ns) t) in
      cap_both (get_or levels n 0) (greatest (pick levels ns)) (nesting (get_or ts n (Op 0 nil))) (greatest (nestings (at ts ns))) a b

  picked_deeper : (ns : List ℕ) → T (below (length ts) ns) → capped_level (first_or_deeper (pick levels ns)) ≡ capped_level (first_or_deeper (nestings (at ts ns)))
  unfolding every pick greatest first_or_deeper at nestings
  picked_deeper [] t = refl
  picked_deeper (n ∷ []) t = let a = M.level_is n (ltb→lt n (length ts) (and_left (ltb n (length ts)) true t)) in omega arith
  picked_deeper (n ∷ (m ∷ ns)) t =
      let a = M.level_is n (ltb→lt n (length ts) (and_left (ltb n (length ts)) (below (length ts) (m ∷ ns)) t)) in
      let x = greatest (pick levels (m ∷ ns)) in
      let y = greatest (nestings (at ts (m ∷ ns))) in
      let b = picked_levels (m ∷ ns) (and_right (ltb n (length ts)) (below (length ts) (m ∷ ns)) t) in
      cap_both (get_or levels n 0) (suc x) (nesting (get_or ts n (Op 0 nil))) (suc y) a (cap_suc x y b)

  pub picked_level_by : (k : ℕ) (ns : List ℕ) → T (below (length ts) ns) → capped_level (level_by k (pick levels ns)) ≡ capped_level (level_by k (nestings (at ts ns)))
  unfolding level_by
  picked_level_by k ns t = go (is_switch k)
    where
      go : (b : Bool)
          → capped_level (cond b (first_or_deeper (pick levels ns)) (greatest (pick levels ns)))
          ≡ capped_level (cond b (first_or_deeper (nestings (at ts ns))) (greatest (nestings (at ts ns))))
      go true = picked_deeper ns t
      go false = picked_levels ns t
