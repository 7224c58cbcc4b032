-- The rows of a list within the limits have the form by which their sheet's bytes are counted, so that the two tests together are `laid_out`. Assumes nothing.
use Prim.Native.Nat.{ℕ, suc, ◌+◌, ◌-◌, ◌*◌, ◌/◌, ◌≤◌, ◌<◌}
use mathlib.Core.Path.{◌≡◌, refl, sym, ap, ◌∙◌, subst}
use mathlib.Core.Bool.{Bool, true, false, not, ◌&&◌, ◌||◌, cond}
use mathlib.Core.List.{List, [], ◌∷◌, ◌++◌}
use native.Mathlib.Omega.{arith}
use native.Mathlib.Nat.{mul-div_cancel}
use borrow.Author.Tests.{ne_eqb}
use lib.IntN.{pos, negsuc}
use lib.Dec.{T, eqb, leb, ltb, leb→le, le→leb, eqb→eq}
use lib.ListN.{length, take, drop, replicate}
use lib.Seq.{take_at, drop_at}
use Rattle.spec_tree.specs.Outcome.{Outcome, ok, refused, by, ◌>>=◌}
use Rattle.spec_tree.specs.Bytes.{eq_bytes, every}
use Rattle.spec_tree.specs.Kinds.{arity_ok, Neg, Select, SelectOr}
use Rattle.spec_tree.specs.Rows.{Row, row_sym, row_const, row_op, Table, trees, occurrences}
use Rattle.spec_tree.specs.Passes.{operands_ok}
use Rattle.spec_tree.specs.Layout.{row_kind, row_default, row_fields, row_words, table_words, table_of, row_ok, rows_ok, in_domain, sheet_fits, loadable, laid_out, table_or_9}
use Rattle.spec_tree.proofs.Logic.{and_left, and_right, and_both}
use Rattle.spec_tree.proofs.Tests.{eq→eqb}
use Rattle.spec_tree.proofs.KindLaws.{arity_kind}
use Rattle.spec_tree.proofs.TreeLaws.{eq_bytes_sound}
use Rattle.spec_tree.proofs.DomainPasses.{domain}
use Rattle.spec_tree.proofs.LayoutLaws.{fields_few, words_long, table_long}
use Rattle.node_rows.specs.records.Shape.{Shapes}
use Rattle.node_rows.proofs.records.ShapeLaws.{row_shaped, each_shaped, shaped, all_shapes}
use Rattle.node_rows.specs.rows.Check.{laid_in_domain, check_domain}
use Rattle.node_rows.specs.rows.Nine.{check_rows}

-- ---- a row

-- a word after another at the front of a row
module _ (i : ℕ) where
  abbrev last : ℕ → ℕ → ℕ → Bool
  last kind default count = not (eqb (kind + default) 1) || ltb 1 count

  shape_by : (kind default count : ℕ) (rest : List ℕ) → kind + default ≤ 28 → count ≤ 32 → T (last kind default count) → T (row_shaped (kind ∷ default ∷ count ∷ rest))
  unfolding row_shaped
  shape_by kind default count rest a b c =
      and_both (leb kind 28) (leb default (28 - kind) && (leb count 32 && last kind default count)) (le→leb kind 28 (omega arith))
      (and_both (leb default (28 - kind)) (leb count 32 && last kind default count) (le→leb default (28 - kind) (omega arith))
      (and_both (leb count 32) (last kind default count) (le→leb count 32 b) c))

  no_constant : (kind default count : ℕ) → 2 ≤ kind + default → T (last kind default count)
  no_constant kind default count h = subst (λ (b : Bool). T (not b || ltb 1 count)) (sym (ne_eqb (kind + default) 1 (λ e. omega arith))) tt

  operation_shape : (k : ℕ) (ns : List ℕ) → T (row_ok i (row_op k ns)) → T (row_shaped (row_words (row_op k ns)))
  unfolding row_words row_kind row_default row_fields row_ok operands_ok
  operation_shape k ns t =
      let o = and_left (operands_ok k (length ns)) (every (λ n. ltb n i) ns) t in
      let two = leb→le Neg k (and_left (leb Neg k) (arity_ok k (length ns)) o) in
      let small = arity_kind k (length ns) (and_right (leb Neg k) (arity_ok k (length ns)) o) in
      go (eqb k SelectOr) (eqb→eq k SelectOr) two small (fields_few i (row_op k ns) t)
    where
      go : (b : Bool) → (T b → k ≡ SelectOr) → 2 ≤ k → k < 29 → length ns ≤ 32
          → T (row_shaped (cond b Select k ∷ cond b 1 0 ∷ length ns ∷ (ns ++ replicate (32 - length ns) 0)))
      go true e a b d = shape_by Select 1 (length ns) _ (omega arith) d (no_constant Select 1 (length ns) (omega arith))
      go false e a b d = shape_by k 0 (length ns) _ (omega arith) d (no_constant k 0 (length ns) (omega arith))

  row_shape : (r : Row) → T (row_ok i r) → T (row_shaped (row_words r))
  unfolding row_words row_kind row_default row_fields
  row_shape (row_sym s) t = shape_by 0 0 (length s) _ (omega arith) (fields_few i (row_sym s) t) tt
  row_shape (row_const (pos n)) t = shape_by 1 0 2 _ (omega arith) (omega arith) tt
  row_shape (row_const (negsuc n)) t = shape_by 1 0 2 _ (omega arith) (omega arith) tt
  row_shape (row_op k ns) t = operation_shape k ns t

-- ---- all rows

each_shape : (i : ℕ) (l : List Row) → T (rows_ok i l) → T (each_shaped (length l) (table_words l))
unfolding rows_ok table_words each_shaped
each_shape i [] t = tt
each_shape i (r ∷ l) t =
    let u = and_left (row_ok i r) (rows_ok (suc i) l) t in
    let n = words_long r (fields_few i r u) in
    and_both (row_shaped (take 35 (row_words r ++ table_words l))) (each_shaped (length l) (drop 35 (row_words r ++ table_words l)))
    (subst (λ (w : List ℕ). T (row_shaped w)) (sym (take_at (row_words r) (table_words l) 35 n)) (row_shape i r u))
    (subst (λ (w : List ℕ). T (each_shaped (length l) w)) (sym (drop_at (row_words r) (table_words l) 35 n)) (each_shape (suc i) l (and_right (row_ok i r) (rows_ok (suc i) l) t)))

table_shaped : (t : Table) → T (in_domain t) → T (shaped (table_words t.rows) t.roots)
unfolding shaped
table_shaped t h =
    let D = domain t h in
    let n = length t.rows in
    let long = table_long 0 t.rows D.good_rows in
    let many : length (table_words t.rows) / 35 ≡ n = ap (λ (m : ℕ). m / 35) long ∙ mul-div_cancel n (omega arith) in
    let whole : length (table_words t.rows) ≡ 35 * (length (table_words t.rows) / 35) = omega arith in
    let each = subst (λ (m : ℕ). T (each_shaped m (table_words t.rows))) (sym many) (each_shape 0 t.rows D.good_rows) in
    let ws = table_words t.rows in
    let m = length (table_words t.rows) / 35 in
    let few = leb m 1024 && (leb (length t.roots) 64 && each_shaped m ws) in
    and_both (eqb (length ws) (35 * m)) few (eq→eqb (length ws) (35 * m) whole)
    (and_both (leb m 1024) (leb (length t.roots) 64 && each_shaped m ws) (le→leb m 1024 (let f = D.few_rows in omega arith))
    (and_both (leb (length t.roots) 64) (each_shaped m ws) (le→leb (length t.roots) 64 D.few_roots) each))

pub laid_shaped : (ws ns : List ℕ) → T (laid_in_domain ws ns) → Shapes ws
unfolding laid_in_domain table_of
laid_shaped ws ns t =
    let e = eq_bytes (table_words (table_of ws ns).rows) ws in
    all_shapes ws ns
    (subst (λ (l : List ℕ). T (shaped l ns)) (eq_bytes_sound (table_words (table_of ws ns).rows) ws (and_left e (in_domain (table_of ws ns)) t))
    (table_shaped (table_of ws ns) (and_right e (in_domain (table_of ws ns)) t)))

-- ---- the two tests together

both_tests : (ws ns : List ℕ) → laid_out ws ns ≡ (laid_in_domain ws ns && sheet_fits (table_of ws ns))
unfolding laid_out laid_in_domain loadable
both_tests ws ns = regroup (eq_bytes (table_words (table_of ws ns).rows) ws) (in_domain (table_of ws ns)) (sheet_fits (table_of ws ns))
  where
    regroup : (a b c : Bool) → (a && (b && c)) ≡ ((a && b) && c)
    regroup true b c = refl
    regroup false b c = refl

module _ (ws ns : List ℕ) where
  abbrev by_domain : Bool → Outcome ℕ
  by_domain b = cond b (ok (table_of ws ns)) (refused (by 9)) >>= λ t. ok (occurrences (trees t))

  by_tests : (b : Bool) → laid_out ws ns ≡ b → check_rows ws ns ≡ by_domain b
  unfolding check_rows table_or_9
  by_tests b e = ap by_domain e

  -- refused by the first test
  pub not_in_domain : refused (by 9) ≡ check_domain ws ns → refused (by 9) ≡ check_rows ws ns
  unfolding check_domain
  not_in_domain e = go (laid_in_domain ws ns) refl e
    where
      go : (b : Bool) → laid_in_domain ws ns ≡ b → refused (by 9) ≡ by_domain b → refused (by 9) ≡ check_rows ws ns
      go true d e = absurd (let z : ◌≡◌ {A = ℕ} 0 1 = cc in omega arith)
      go false d e = sym (by_tests false (both_tests ws ns ∙ rw d))

  pub laid_by : (n : ℕ) → ok n ≡ check_domain ws ns → T (laid_in_domain ws ns)
  unfolding check_domain
  laid_by n e = go (laid_in_domain ws ns) (λ t. t) e
    where
      go : (b : Bool) → (T b → T (laid_in_domain ws ns)) → ok n ≡ by_domain b → T (laid_in_domain ws ns)
      go true f e = f tt
      go false f e = absurd (let z : ◌≡◌ {A = ℕ} 0 1 = cc in omega arith)

  -- accepted by the first, and by the second or not
  pub in_domain_then : (n : ℕ) (f : Bool) → ok n ≡ check_domain ws ns → f ≡ sheet_fits (table_of ws ns) → cond f (ok n) (refused (by 9)) ≡ check_rows ws ns
  unfolding check_domain
  in_domain_then n f e g = go (laid_in_domain ws ns) refl e
    where
      second : (b : Bool) → sheet_fits (table_of ws ns) ≡ b → laid_in_domain ws ns ≡ true → f ≡ b → ok n ≡ by_domain true → cond f (ok n) (refused (by 9)) ≡ check_rows ws ns
      second true s d h e = rw h (e ∙ sym (by_tests true (both_tests ws ns ∙ rw (d, s))))
      second false s d h e = rw h (sym (by_tests false (both_tests ws ns ∙ rw (d, s))))

      go : (b : Bool) → laid_in_domain ws ns ≡ b → ok n ≡ by_domain b → cond f (ok n) (refused (by 9)) ≡ check_rows ws ns
      go true d e = second (sheet_fits (table_of ws ns)) refl d g e
      go false d e = absurd (let z : ◌≡◌ {A = ℕ} 0 1 = cc in omega arith)
