-- The pass over the rows: those before i are tested, and the measures of their trees are kept. Assumes nothing.
use Prim.Native.Nat.{ℕ, suc, ◌+◌, ◌-◌, ◌*◌, ◌≤◌, ◌<◌}
use mathlib.Core.Path.{◌≡◌, sym, ◌∙◌, ap, subst}
use mathlib.Core.Bool.{Bool, true, false, ◌&&◌}
use mathlib.Core.Logic.{◌≢◌, ⊎_elim}
use mathlib.Core.List.{List, [], ◌∷◌, ◌++◌}
use native.Mathlib.Nat.{eq-or-lt_of_le}
use native.Mathlib.Numerals.{add-one}
use native.Mathlib.Omega.{arith}
use lib.Dec.{T}
use lib.ListN.{length, get_or, take, drop, set, length-append, length-take, length-drop, get_or-append}
use lib.Seq.{drop-drop, get_or-set_same, get_or-set_other, get_or_at}
use Rattle.spec_tree.specs.Tree.{Tree, Op, nil}
use Rattle.spec_tree.specs.Facts.{total, size, nesting}
use Rattle.spec_tree.specs.Rows.{Row, at, tree_of_row, trees_from, occurrences}
use Rattle.spec_tree.specs.Layout.{row_of, rows_of}
use Rattle.node_rows.specs.fields.Below.{below}
use Rattle.node_rows.specs.rows.Check.{row_test, rows_test}
use Rattle.node_rows.specs.rows.Measure.{pick, capped_size, capped_level, level_by, row_operands, RowMeasures, Filled}
use Rattle.node_rows.proofs.names.Leaves.{back}
use Rattle.node_rows.proofs.rows.Sums.{below_less}
use Rattle.node_rows.proofs.rows.RowTrees.{row_count, operands_below, row_size, row_nesting, picked_sizes, picked_level_by}

abbrev pub row_at : List ℕ → ℕ → List ℕ
row_at ws i = take 35 (drop (i * 35) ws)

-- as the code cuts it out
abbrev pub part_at : List ℕ → ℕ → List ℕ
part_at ws i = take ((i * 35 + 35) - i * 35) (drop (i * 35) ws)

pub part_is : (ws : List ℕ) (i : ℕ) → part_at ws i ≡ row_at ws i
part_is ws i = ap (λ (m : ℕ). take m (drop (i * 35) ws)) (back (i * 35) 35)

pub row_long : (ws : List ℕ) (n i : ℕ) → length ws ≡ n * 35 → i < n → length (part_at ws i) ≡ 35
row_long ws n i e h = simp (length-take, length-drop) (omega arith)

truth : (b : Bool) → b ≡ true → T b
truth b e = subst T (sym e) tt

pub record Filling (ws : List ℕ) (n : ℕ) (sizes levels : List ℕ) (i : ℕ) : Type 0 where
  pub inside : i ≤ n
  pub ts : List Tree
  pub long : length ts ≡ i
  pub tests_left : rows_test 0 n ws ≡ rows_test i (n - i) (drop (i * 35) ws)
  pub trees_left : trees_from [] (rows_of n ws) ≡ trees_from ts (rows_of (n - i) (drop (i * 35) ws))
  pub measured : RowMeasures ts sizes levels

-- one row more among those that are left
module _ (ws : List ℕ) (n i : ℕ) (h : i < n) where
  one_less : n - i ≡ suc (n - (i + 1))
  one_less = omega arith

  past_row : drop 35 (drop (i * 35) ws) ≡ drop ((i + 1) * 35) ws
  past_row = drop-drop 35 (i * 35) ws ∙ ap (λ (m : ℕ). drop m ws) (let q : i * 35 + 35 ≡ (i + 1) * 35 = omega arith in q)

  tests_next : rows_test i (n - i) (drop (i * 35) ws) ≡ (row_test i (row_at ws i) && rows_test (i + 1) (n - (i + 1)) (drop ((i + 1) * 35) ws))
  unfolding rows_test
  tests_next = rw (one_less, past_row, add-one i)

  rows_next : rows_of (n - i) (drop (i * 35) ws) ≡ row_of (row_at ws i) ∷ rows_of (n - (i + 1)) (drop ((i + 1) * 35) ws)
  unfolding rows_of
  rows_next = rw (one_less, past_row)

-- the measures of one tree more
module _ (ts : List Tree) (t : Tree) (sizes levels : List ℕ) (i s l : ℕ) where
  measured_more :
      length ts ≡ i → i < length sizes → i < length levels → RowMeasures ts sizes levels → s ≡ capped_size (size t) → l ≡ capped_level (nesting t)
      → RowMeasures (ts ++ (t ∷ [])) (set sizes i s) (set levels i l)
  measured_more e hs hl M es el =
      record {
        size_is = λ j h. ⊎_elim (size_here j) (size_there j) (eq-or-lt_of_le (upto j h));
        level_is = λ j h. ⊎_elim (level_here j) (level_there j) (eq-or-lt_of_le (upto j h));
      }
    where
      upto : (j : ℕ) → j < length (ts ++ (t ∷ [])) → j ≤ i
      upto j h = let q = length-append ts (t ∷ []) in omega arith

      size_here : (j : ℕ) → j ≡ i → get_or (set sizes i s) j 0 ≡ capped_size (size (get_or (ts ++ (t ∷ [])) j (Op 0 nil)))
      size_here j q = rw (q, get_or-set_same sizes i s 0 hs, get_or_at ts t [] (Op 0 nil) i e) es

      size_there : (j : ℕ) → j < i → get_or (set sizes i s) j 0 ≡ capped_size (size (get_or (ts ++ (t ∷ [])) j (Op 0 nil)))
      size_there j q =
          let n : j ≢ i = omega arith in
          let m : j < length ts = omega arith in
          rw (get_or-set_other sizes i j s 0 n, get_or-append ts (t ∷ []) (Op 0 nil) j m) (M.size_is j m)

      level_here : (j : ℕ) → j ≡ i → get_or (set levels i l) j 0 ≡ capped_level (nesting (get_or (ts ++ (t ∷ [])) j (Op 0 nil)))
      level_here j q = rw (q, get_or-set_same levels i l 0 hl, get_or_at ts t [] (Op 0 nil) i e) el

      level_there : (j : ℕ) → j < i → get_or (set levels i l) j 0 ≡ capped_level (nesting (get_or (ts ++ (t ∷ [])) j (Op 0 nil)))
      level_there j q =
          let n : j ≢ i = omega arith in
          let m : j < length ts = omega arith in
          rw (get_or-set_other levels i j l 0 n, get_or-append ts (t ∷ []) (Op 0 nil) j m) (M.level_is j m)

capped_one : (a b s : ℕ) → capped_size a ≡ capped_size b → s ≡ capped_size (suc a) → s ≡ capped_size (suc b)
capped_one a b s e g = omega arith

module _ {ws : List ℕ} {n : ℕ} {sizes levels : List ℕ} {i : ℕ} (F : Filling ws n sizes levels i) (h : i < n) where
  -- what measuring the row asks
  pub row_ready :
      length ws ≡ n * 35 → n ≤ length sizes → n ≤ length levels → row_test i (part_at ws i) ≡ true
      → ((length (part_at ws i) ≡ 35) × (get_or (part_at ws i) 2 0 ≤ 32)) × (T (below (length sizes) (row_operands (part_at ws i))) × T (below (length levels) (row_operands (part_at ws i))))
  row_ready e hs hl t =
      let b = operands_below i (part_at ws i) (truth (row_test i (part_at ws i)) t) in
      ((row_long ws n i e h, row_count i (part_at ws i) (truth (row_test i (part_at ws i)) t)), (below_less i (length sizes) (omega arith) (row_operands (part_at ws i)) b, below_less i (length levels) (omega arith) (row_operands (part_at ws i)) b))

  pub filling_stop : row_test i (part_at ws i) ≡ false → Filled ws n sizes levels false
  filling_stop t =
      record {
        tested = sym (F.tests_left ∙ tests_next ws n i h ∙ ap (λ (b : Bool). b && rows_test (i + 1) (n - (i + 1)) (drop ((i + 1) * 35) ws)) (rw (part_is ws i) at t));
        measured = λ q. let z : ◌≡◌ {A = ℕ} 0 1 = cc in absurd (omega arith);
      }

  pub filling_next :
      n ≤ length sizes → n ≤ length levels → row_test i (part_at ws i) ≡ true → (s l : ℕ)
      → s ≡ capped_size (suc (total (pick sizes (row_operands (part_at ws i)))))
      → l ≡ capped_level (level_by (get_or (part_at ws i) 0 0) (pick levels (row_operands (part_at ws i))))
      → Filling ws n (set sizes i s) (set levels i l) (i + 1)
  unfolding trees_from
  filling_next hs hl t s l es el =
      let w = part_at ws i in
      let g = truth (row_test i w) t in
      let ops = row_operands w in
      let b : T (below (length F.ts) ops) = subst (λ (m : ℕ). T (below m ops)) (sym F.long) (operands_below i w g) in
      let tree = tree_of_row F.ts (row_of (row_at ws i)) in
      let same : tree_of_row F.ts (row_of w) ≡ tree = ap (λ (u : List ℕ). tree_of_row F.ts (row_of u)) (part_is ws i) in
      record {
        inside = omega arith;
        ts = F.ts ++ (tree ∷ []);
        long = length-append F.ts (tree ∷ []) ∙ ap (λ (m : ℕ). m + 1) F.long;
        tests_left =
            F.tests_left ∙ tests_next ws n i h ∙ ap (λ (b : Bool). b && rows_test (i + 1) (n - (i + 1)) (drop ((i + 1) * 35) ws)) (rw (part_is ws i) at t);
        trees_left = F.trees_left ∙ ap (λ (l : List Row). trees_from F.ts l) (rows_next ws n i h);
        measured =
            measured_more F.ts tree sizes levels i s l F.long (omega arith) (omega arith) F.measured
            (capped_one (total (pick sizes ops)) (occurrences (at F.ts ops)) s (picked_sizes F.ts sizes levels F.measured ops b) es
            ∙ ap capped_size (sym (row_size F.ts i w g) ∙ ap size same))
            (el ∙ picked_level_by F.ts sizes levels F.measured (get_or w 0 0) ops b ∙ ap capped_level (sym (row_nesting F.ts i w g) ∙ ap nesting same));
      }

pub filling_end : {ws : List ℕ} {n : ℕ} {sizes levels : List ℕ} {i : ℕ} → Filling ws n sizes levels i → n ≤ i → Filled ws n sizes levels true
unfolding rows_test rows_of trees_from
filling_end {ws} {n} {sizes} {levels} {i} F h =
    let z : n - i ≡ 0 = omega arith in
    record {
      tested = sym (F.tests_left ∙ ap (λ (m : ℕ). rows_test i m (drop (i * 35) ws)) z);
      measured =
          λ q. subst (λ (l : List Tree). RowMeasures l sizes levels) (sym (F.trees_left ∙ ap (λ (m : ℕ). trees_from F.ts (rows_of m (drop (i * 35) ws))) z)) F.measured;
    }
