-- The tests that the code makes of the words of a table and its roots, taken together, are `laid-in-domain`. Assumes nothing.
use Prim.Native.Nat.{ℕ, zero, suc, ◌+◌, ◌*◌, ◌/◌, ◌≤◌, ◌<◌, max}
use mathlib.Core.Path.{◌≡◌, refl, sym, ◌∙◌, ap, ap₂, subst}
use mathlib.Core.Bool.{Bool, true, false, not, ◌&&◌}
use mathlib.Core.List.{List, [], ◌∷◌, ◌++◌}
use native.Mathlib.Omega.{arith}
use borrow.Author.Tests.{lt-leb, le-leb}
use lib.Dec.{T, eqb, leb, leb→le, le→leb, nleb→lt}
use lib.ListN.{length, get_or, take, drop, length-append, length-take, length-drop}
use Rattle.spec_tree.specs.Outcome.{ok, refused, by}
use Rattle.spec_tree.specs.Bytes.{eq_bytes}
use Rattle.spec_tree.specs.Tree.{Tree}
use Rattle.spec_tree.specs.Facts.{total, size, nesting, greatest}
use Rattle.spec_tree.specs.Rows.{Row, row_const, at, tree_of_row, trees_from, trees, occurrences, within_limits}
use Rattle.spec_tree.specs.Layout.{row_fields, row_words, table_words, signed, row_by, row_of, rows_of, table_of, row_ok, rows_ok, in_domain}
use Rattle.spec_tree.proofs.Logic.{and_left, and_right, and_both, same_test}
use Rattle.spec_tree.proofs.TreeLaws.{eq_bytes_sound}
use Rattle.spec_tree.proofs.LayoutLaws.{words_long, rows_long}
use lib.IntN.{ℤ, pos, negsuc}
use Rattle.node_rows.specs.fields.Below.{below}
use Rattle.node_rows.specs.rows.Check.{laid_in_domain, check_domain, rows_test}
use Rattle.node_rows.specs.rows.Measure.{pick, capped_size, capped_level, Filled}
use Rattle.node_rows.proofs.rows.RowTrees.{nestings, picked_sizes, picked_levels}
use Rattle.node_rows.proofs.rows.RowLaws.{row_fine, row_fine_is}

-- ---- equal words, cut in two

pub eq_bytes_cut : (a b c : List ℕ) → eq_bytes (a ++ b) c ≡ (eq_bytes a (take (length a) c) && eq_bytes b (drop (length a) c))
unfolding eq_bytes
eq_bytes_cut [] b c = refl
eq_bytes_cut (x ∷ a) b [] = refl
eq_bytes_cut (x ∷ a) b (y ∷ c) = go (eqb x y) (eq_bytes_cut a b c)
  where
    go : (q : Bool) → eq_bytes (a ++ b) c ≡ (eq_bytes a (take (length a) c) && eq_bytes b (drop (length a) c))
        → ◌≡◌ {A = Bool} (elim q [ true ↦ eq_bytes (a ++ b) c | false ↦ false ])
        (elim q [ true ↦ eq_bytes a (take (length a) c) | false ↦ false ] && eq_bytes b (drop (length a) c))
    go true e = e
    go false e = refl

-- ---- a row is 35 words, whatever it is read from

fields_few : (m : ℕ) (f : List ℕ) → length f ≤ 32 → length (row_fields (row_by m f)) ≤ 32
unfolding row_by row_fields
fields_few zero f h = h
fields_few (suc zero) f h = go (signed (get_or f 0 0) (get_or f 1 0))
  where
    go : (c : ℤ) → length (row_fields (row_const c)) ≤ 32
    go (pos n) = omega arith
    go (negsuc n) = omega arith
fields_few (suc (suc m)) f h = h

pub read_long : (ws : List ℕ) → length (row_words (row_of (take 35 ws))) ≡ 35
unfolding row_of
read_long ws =
    let w = take 35 ws in
    words_long (row_of w) (fields_few (get_or w 0 0 + get_or w 1 0) (take (get_or w 2 0) (drop 3 w)) (short (get_or w 2 0)))
  where
    short : (n : ℕ) → length (take n (drop 3 (take 35 ws))) ≤ 32
    short n = simp (length-take, length-drop) (omega arith)

table_long : (n : ℕ) (ws : List ℕ) → length (table_words (rows_of n ws)) ≡ n * 35
unfolding rows_of table_words
table_long zero ws = refl
table_long (suc n) ws =
    let a = length-append (row_words (row_of (take 35 ws))) (table_words (rows_of n (drop 35 ws))) in
    let b = read_long ws in
    let c = table_long n (drop 35 ws) in
    omega arith

-- ---- row by row

swap : (a b c d : Bool) → ((a && b) && (c && d)) ≡ ((a && c) && (b && d))
swap true true c d = refl
swap true false true d = refl
swap true false false d = refl
swap false b c d = refl

pub rows_law : (n i : ℕ) (ws : List ℕ) → length ws ≡ n * 35 → (eq_bytes (table_words (rows_of n ws)) ws && rows_ok i (rows_of n ws)) ≡ rows_test i n ws
unfolding rows_of table_words rows_ok rows_test row_fine
rows_law zero i [] e = (unfold eq_bytes in refl)
rows_law zero i (w ∷ ws) e = absurd (omega arith)
rows_law (suc n) i ws e =
    let r = row_of (take 35 ws) in
    let l = rows_of n (drop 35 ws) in
    let w : length (take 35 ws) ≡ 35 = length-take 35 ws ∙ (omega arith) in
    let d : length (drop 35 ws) ≡ n * 35 = length-drop 35 ws ∙ (omega arith) in
    let c : eq_bytes (row_words r ++ table_words l) ws ≡ (eq_bytes (row_words r) (take 35 ws) && eq_bytes (table_words l) (drop 35 ws)) =
    eq_bytes_cut (row_words r) (table_words l) ws
    ∙ ap (λ (m : ℕ). eq_bytes (row_words r) (take m ws) && eq_bytes (table_words l) (drop m ws)) (read_long ws) in
    ap (λ (b : Bool). b && (row_ok i r && rows_ok (suc i) l)) c
    ∙ swap (eq_bytes (row_words r) (take 35 ws)) (eq_bytes (table_words l) (drop 35 ws)) (row_ok i r) (rows_ok (suc i) l)
    ∙ ap₂ ◌&&◌ (row_fine_is i (take 35 ws) w) (rows_law n (suc i) (drop 35 ws) d)

-- ---- the table

abbrev pub row_count : List ℕ → ℕ
row_count ws = length ws / 35

abbrev pub row_trees : List ℕ → List Tree
row_trees ws = trees_from [] (rows_of (row_count ws) ws)

pub uneven : (ws ns : List ℕ) → (length ws ≡ row_count ws * 35 → ⊥) → laid_in_domain ws ns ≡ false
unfolding laid_in_domain table_of
uneven ws ns h = go (eq_bytes (table_words (rows_of (row_count ws) ws)) ws) (λ t. h (sym (ap length (eq_bytes_sound (table_words (rows_of (row_count ws) ws)) ws t)) ∙ table_long (row_count ws) ws))
  where
    go : (b : Bool) → (T b → ⊥) → (b && in_domain (table_of ws ns)) ≡ false
    go true f = absurd (f tt)
    go false f = refl

regroup : (e a b r v w : Bool) → (e && ((a && b) && (r && (v && w)))) ≡ (a && (b && ((e && r) && (v && w))))
regroup true true true r v w = refl
regroup true true false r v w = refl
regroup true false b r v w = refl
regroup false true true r v w = refl
regroup false true false r v w = refl
regroup false false b r v w = refl

-- in the code's order
pub laid_by :
    (ws ns : List ℕ) → length ws ≡ row_count ws * 35
    → laid_in_domain ws ns
    ≡ (leb (row_count ws) 1024 && (leb (length ns) 64 && (rows_test 0 (row_count ws) ws && (below (row_count ws) ns && within_limits (at (row_trees ws) ns)))))
unfolding laid_in_domain table_of in_domain trees
laid_by ws ns e =
    let n = row_count ws in
    let E = eq_bytes (table_words (rows_of n ws)) ws in
    let R = rows_ok 0 (rows_of n ws) in
    let W = within_limits (at (row_trees ws) ns) in
    ap (λ (m : ℕ). E && ((leb m 1024 && leb (length ns) 64) && (R && (below m ns && W)))) (rows_long n ws)
    ∙ regroup E (leb n 1024) (leb (length ns) 64) R (below n ns) W
    ∙ ap (λ (b : Bool). leb n 1024 && (leb (length ns) 64 && (b && (below n ns && W)))) (rows_law n 0 ws e)

trees_from_long : (ts : List Tree) (l : List Row) → length (trees_from ts l) ≡ length ts + length l
unfolding trees_from
trees_from_long ts [] = omega arith
trees_from_long ts (r ∷ l) = trees_from_long (ts ++ (tree_of_row ts r ∷ [])) l ∙ (let a = length-append ts (tree_of_row ts r ∷ []) in omega arith)

pub trees_long : (n : ℕ) (ws : List ℕ) → length (trees_from [] (rows_of n ws)) ≡ n
trees_long n ws = trees_from_long [] (rows_of n ws) ∙ (let a = rows_long n ws in omega arith)

-- ---- the limits

limits_over : (ts : List Tree) → 1024 < occurrences ts → within_limits ts ≡ false
unfolding within_limits
limits_over ts h = rw (lt-leb (occurrences ts) 1024 h)

limits_nil : within_limits [] ≡ true
unfolding within_limits occurrences
limits_nil = refl

limits_cons : (t : Tree) (l : List Tree) → occurrences (t ∷ l) ≤ 1024 → within_limits (t ∷ l) ≡ (leb (nesting t) 8 && within_limits l)
unfolding within_limits occurrences
limits_cons t l h = let g : occurrences l ≤ 1024 = omega arith in rw (le-leb (size t + occurrences l) 1024 h, le-leb (occurrences l) 1024 g)

leb_max : (a b m : ℕ) → (leb a m && leb b m) ≡ leb (max a b) m
leb_max a b m =
    same_test (leb a m && leb b m) (leb (max a b) m)
    (λ t. le→leb (max a b) m (let p = leb→le a m (and_left (leb a m) (leb b m) t) in let q = leb→le b m (and_right (leb a m) (leb b m) t) in omega arith))
    (λ t. let p = leb→le (max a b) m t in and_both (leb a m) (leb b m) (le→leb a m (omega arith)) (le→leb b m (omega arith)))

pub limits_within : (ts : List Tree) → occurrences ts ≤ 1024 → within_limits ts ≡ leb (greatest (nestings ts)) 8
unfolding nestings greatest
limits_within [] h = limits_nil
limits_within (t ∷ l) h =
    limits_cons t l h ∙ ap (λ (b : Bool). leb (nesting t) 8 && b) (limits_within l (less h)) ∙ leb_max (nesting t) (greatest (nestings l)) 8
  where
    less : occurrences (t ∷ l) ≤ 1024 → occurrences l ≤ 1024
    less h = (unfold occurrences in omega arith)

-- ---- what the code answers

refuse : (ws ns : List ℕ) → laid_in_domain ws ns ≡ false → refused (by 9) ≡ check_domain ws ns
unfolding check_domain
refuse ws ns e = rw e

accept : (ws ns : List ℕ) → laid_in_domain ws ns ≡ true → ok (occurrences (at (row_trees ws) ns)) ≡ check_domain ws ns
unfolding check_domain trees table_of
accept ws ns e = rw e

pub stop_uneven : (ws ns : List ℕ) → (length ws ≡ row_count ws * 35 → ⊥) → refused (by 9) ≡ check_domain ws ns
stop_uneven ws ns h = refuse ws ns (uneven ws ns h)

module _ (ws ns : List ℕ) (even : length ws ≡ row_count ws * 35) where
  pub stop_rows : 1024 < row_count ws → refused (by 9) ≡ check_domain ws ns
  stop_rows h = refuse ws ns (laid_by ws ns even ∙ rw (lt-leb (row_count ws) 1024 h))

  module _ (few : row_count ws ≤ 1024) where
    pub stop_roots : 64 < length ns → refused (by 9) ≡ check_domain ws ns
    stop_roots h = refuse ws ns (laid_by ws ns even ∙ rw (le-leb (row_count ws) 1024 few, lt-leb (length ns) 64 h))

    module _ (short : length ns ≤ 64) (sizes levels : List ℕ) (r : Bool) (F : Filled ws (row_count ws) sizes levels r) where
      tested : laid_in_domain ws ns ≡ (r && (below (row_count ws) ns && within_limits (at (row_trees ws) ns)))
      tested = laid_by ws ns even ∙ rw (le-leb (row_count ws) 1024 few, le-leb (length ns) 64 short, sym F.tested)

      pub stop_tests : r ≡ false → refused (by 9) ≡ check_domain ws ns
      stop_tests e = refuse ws ns (tested ∙ rw e)

      module _ (passed : r ≡ true) where
        pub stop_below : below (row_count ws) ns ≡ false → refused (by 9) ≡ check_domain ws ns
        stop_below e = refuse ws ns (tested ∙ rw (passed, e))

        module _ (inside : below (row_count ws) ns ≡ true) where
          limited : laid_in_domain ws ns ≡ within_limits (at (row_trees ws) ns)
          limited = tested ∙ rw (passed, inside)

          all_inside : T (below (length (row_trees ws)) ns)
          all_inside = subst (λ (m : ℕ). T (below m ns)) (sym (trees_long (row_count ws) ws)) (subst T (sym inside) tt)

          sum_is : capped_size (total (pick sizes ns)) ≡ capped_size (occurrences (at (row_trees ws) ns))
          sum_is = picked_sizes (row_trees ws) sizes levels (F.measured passed) ns all_inside

          level_is : capped_level (greatest (pick levels ns)) ≡ capped_level (greatest (nestings (at (row_trees ws) ns)))
          level_is = picked_levels (row_trees ws) sizes levels (F.measured passed) ns all_inside

          pub stop_deep : (g : ℕ) → g ≡ greatest (pick levels ns) → 8 < g → refused (by 9) ≡ check_domain ws ns
          stop_deep g e h = refuse ws ns (limited ∙ either (leb (occurrences (at (row_trees ws) ns)) 1024) (leb→le (occurrences (at (row_trees ws) ns)) 1024) (nleb→lt (occurrences (at (row_trees ws) ns)) 1024))
            where
              deep : 8 < greatest (nestings (at (row_trees ws) ns))
              deep = let q = level_is in omega arith

              either : (b : Bool) → (T b → occurrences (at (row_trees ws) ns) ≤ 1024) → (T (not b) → 1024 < occurrences (at (row_trees ws) ns)) → within_limits (at (row_trees ws) ns) ≡ false
              either true p q = limits_within (at (row_trees ws) ns) (p tt) ∙ lt-leb (greatest (nestings (at (row_trees ws) ns))) 8 deep
              either false p q = limits_over (at (row_trees ws) ns) (q tt)

          pub stop_many : (s : ℕ) → s ≡ capped_size (total (pick sizes ns)) → 1024 < s → refused (by 9) ≡ check_domain ws ns
          stop_many s e h = refuse ws ns (limited ∙ limits_over (at (row_trees ws) ns) (let q = sum_is in omega arith))

          pub laid : (g s : ℕ) → g ≡ greatest (pick levels ns) → g ≤ 8 → s ≡ capped_size (total (pick sizes ns)) → s ≤ 1024 → ok s ≡ check_domain ws ns
          laid g s e h d k =
              let p = sum_is in
              let q = level_is in
              let o : s ≡ occurrences (at (row_trees ws) ns) = omega arith in
              ap (λ (m : ℕ). ok m) o
              ∙ accept ws ns (limited ∙ limits_within (at (row_trees ws) ns) (omega arith) ∙ le-leb (greatest (nestings (at (row_trees ws) ns))) 8 (omega arith))
