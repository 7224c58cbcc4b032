-- A table within every limit of 01's first section has trees that pass 9. Assumes nothing.
use Prim.Native.Nat.{ℕ, zero, suc, ◌+◌, ◌≤◌, ◌<◌}
use mathlib.Core.Path.{◌≡◌, refl, sym, ◌∙◌, ap, subst}
use mathlib.Core.Bool.{Bool, true, ◌&&◌}
use mathlib.Core.List.{List, [], ◌∷◌, ◌++◌}
use native.Mathlib.Omega.{arith}
use lib.ListN.{length, get_or, length-append}
use lib.Dec.{T, leb, ltb, ltb→lt, le→leb, leb→le}
use Rattle.spec_tree.specs.Bytes.{every}
use Rattle.spec_tree.specs.Tree.{Tree, Op, nil, folds, forest}
use Rattle.spec_tree.specs.Rows.{Row, row_sym, row_const, row_op, Table, at, tree_of_row, trees_from, trees, within_limits}
use Rattle.spec_tree.specs.Passes.{all_of, operands_ok, expression, expressions, passes}
use Rattle.spec_tree.specs.Layout.{row_ok, rows_ok, in_domain, sheet_fits, loadable}
use Rattle.spec_tree.proofs.Logic.{and_left, and_right, and_both}
use Rattle.spec_tree.proofs.Formed.{tests}

-- ---- the tests of in-domain by name

pub record Domain (t : Table) : Type 0 where
  pub few_rows : length t.rows ≤ 1024
  pub few_roots : length t.roots ≤ 64
  pub good_rows : T (rows_ok 0 t.rows)
  pub good_roots : T (every (λ n. ltb n (length t.rows)) t.roots)
  pub limited : T (within_limits (trees t))

module _ (t : Table) where
  abbrev counts : Bool
  counts = leb (length t.rows) 1024 && leb (length t.roots) 64

  abbrev roots_ok : Bool
  roots_ok = every (λ n. ltb n (length t.rows)) t.roots

  pub domain : T (in_domain t) → Domain t
  unfolding in_domain
  domain h =
      let n = and_left counts (rows_ok 0 t.rows && (roots_ok && within_limits (trees t))) h in
      let r = and_right counts (rows_ok 0 t.rows && (roots_ok && within_limits (trees t))) h in
      let q = and_right (rows_ok 0 t.rows) (roots_ok && within_limits (trees t)) r in
      record {
        few_rows = leb→le (length t.rows) 1024 (and_left (leb (length t.rows) 1024) (leb (length t.roots) 64) n);
        few_roots = leb→le (length t.roots) 64 (and_right (leb (length t.rows) 1024) (leb (length t.roots) 64) n);
        good_rows = and_left (rows_ok 0 t.rows) (roots_ok && within_limits (trees t)) r;
        good_roots = and_left roots_ok (within_limits (trees t)) q;
        limited = and_right roots_ok (within_limits (trees t)) q;
      }

  pub domain_test : Domain t → T (in_domain t)
  unfolding in_domain
  domain_test D =
      and_both counts (rows_ok 0 t.rows && (roots_ok && within_limits (trees t)))
      (and_both (leb (length t.rows) 1024) (leb (length t.roots) 64) (le→leb (length t.rows) 1024 D.few_rows) (le→leb (length t.roots) 64 D.few_roots))
      (and_both (rows_ok 0 t.rows) (roots_ok && within_limits (trees t)) D.good_rows (and_both roots_ok (within_limits (trees t)) D.good_roots D.limited))

-- ---- trees picked by number

picked : (ts : List Tree) (n : ℕ) → T (expressions ts) → n < length ts → T (expression (get_or ts n (Op 0 nil)))
unfolding expressions
picked [] n h l = absurd (omega arith)
picked (t ∷ ts) zero h l = and_left (expression t) (expressions ts) h
picked (t ∷ ts) (suc n) h l = picked ts n (and_right (expression t) (expressions ts) h) (omega arith)

all_picked : (ts : List Tree) (ns : List ℕ) → T (expressions ts) → T (every (λ n. ltb n (length ts)) ns) → T (expressions (at ts ns))
unfolding expressions at every
all_picked ts [] h e = tt
all_picked ts (n ∷ ns) h e =
    and_both (expression (get_or ts n (Op 0 nil))) (expressions (at ts ns)) (picked ts n h (ltb→lt n (length ts) (and_left (ltb n (length ts)) (every (λ n. ltb n (length ts)) ns) e)))
    (all_picked ts ns h (and_right (ltb n (length ts)) (every (λ n. ltb n (length ts)) ns) e))

pub length_at : (ts : List Tree) (ns : List ℕ) → length (at ts ns) ≡ length ns
unfolding at
length_at ts [] = refl
length_at ts (n ∷ ns) = ap suc (length_at ts ns)

-- ---- a row's tree, from those of the rows before it

tests_long : (l : List Tree) → length (tests (forest l)) ≡ length l
unfolding forest folds
tests_long [] = refl
tests_long (t ∷ l) = ap suc (tests_long l)

tests_pass : (l : List Tree) → T (expressions l) → T (all_of (tests (forest l)))
unfolding forest expressions expression
tests_pass [] h = tt
tests_pass (t ∷ l) h = and_both (expression t) (all_of (tests (forest l))) (and_left (expression t) (expressions l) h) (tests_pass l (and_right (expression t) (expressions l) h))

row_passes : (ts : List Tree) (r : Row) → T (expressions ts) → T (row_ok (length ts) r) → T (expression (tree_of_row ts r))
unfolding tree_of_row row_ok expression
row_passes ts (row_sym s) h g = g
row_passes ts (row_const c) h g = g
row_passes ts (row_op k ns) h g =
    let e : length (tests (forest (at ts ns))) ≡ length ns = tests_long (at ts ns) ∙ length_at ts ns in
    and_both (operands_ok k (length (tests (forest (at ts ns))))) (all_of (tests (forest (at ts ns))))
    (subst (λ (m : ℕ). T (operands_ok k m)) (sym e) (and_left (operands_ok k (length ns)) (every (λ n. ltb n (length ts)) ns) g))
    (tests_pass (at ts ns) (all_picked ts ns h (and_right (operands_ok k (length ns)) (every (λ n. ltb n (length ts)) ns) g)))

-- ---- the rows' trees, and the roots'

expressions_append : (l : List Tree) (t : Tree) → T (expressions l) → T (expression t) → T (expressions (l ++ (t ∷ [])))
unfolding expressions
expressions_append [] t g h = and_both (expression t) true h tt
expressions_append (u ∷ l) t g h = and_both (expression u) (expressions (l ++ (t ∷ []))) (and_left (expression u) (expressions l) g) (expressions_append l t (and_right (expression u) (expressions l) g) h)

rows_pass : (ts : List Tree) (l : List Row) → T (expressions ts) → T (rows_ok (length ts) l) → T (expressions (trees_from ts l)) × (length (trees_from ts l) ≡ length ts + length l)
unfolding trees_from rows_ok
rows_pass ts [] h g = (h, omega arith)
rows_pass ts (r ∷ l) h g =
    let t = tree_of_row ts r in
    let n : length (ts ++ (t ∷ [])) ≡ suc (length ts) = omega (arith, length-append ts (t ∷ [])) in
    let q = rows_pass (ts ++ (t ∷ [])) l (expressions_append ts t h (row_passes ts r h (and_left (row_ok (length ts) r) (rows_ok (suc (length ts)) l) g)))
    (subst (λ (m : ℕ). T (rows_ok m l)) (sym n) (and_right (row_ok (length ts) r) (rows_ok (suc (length ts)) l) g)) in
    (q.0, (let a = q.1 in omega arith))

pub domain_passes : (t : Table) → T (in_domain t) → T (passes (trees t))
unfolding passes trees
domain_passes t h =
    let D = domain t h in
    let ts = trees_from [] t.rows in
    let q = rows_pass [] t.rows (unfold expressions in tt) D.good_rows in
    let e : length ts ≡ length t.rows = (let a = q.1 in omega arith) in
    and_both (leb (length (at ts t.roots)) 64) (within_limits (at ts t.roots) && expressions (at ts t.roots))
    (le→leb (length (at ts t.roots)) 64 (let a = length_at ts t.roots in let b = D.few_roots in omega arith))
    (and_both (within_limits (at ts t.roots)) (expressions (at ts t.roots)) D.limited
    (all_picked ts t.roots q.0 (subst (λ (m : ℕ). T (every (λ n. ltb n m) t.roots)) (sym e) D.good_roots)))

pub loadable_passes : (t : Table) → T (loadable t) → T (passes (trees t))
unfolding loadable
loadable_passes t h = domain_passes t (and_left (in_domain t) (sheet_fits t) h)
