-- A row's tree by its row and its operands' trees, and the words of trees by those of rows. Assumes nothing.
use Prim.Native.Nat.{ℕ, zero, suc, ◌+◌, ◌*◌, ◌≤◌, ◌<◌, max}
use mathlib.Core.Path.{◌≡◌, refl, sym, ap, ap₂, ◌∙◌, subst}
use mathlib.Core.List.{List, [], ◌∷◌, ◌++◌, append_assoc, append-nil}
use native.Mathlib.Omega.{arith}
use native.Mathlib.Nat.{zero-add}
use native.Mathlib.Numerals.{add-one}
use lib.ListN.{length, get_or, take, drop, length-append, get_or-append}
use lib.Seq.{get_or-append-add, take-suc, split_at}
use lib.Dec.{T, ltb, leb, leb→le, ltb→lt}
use Rattle.spec_tree.specs.Bytes.{eq_bytes, every}
use Rattle.spec_tree.specs.Tree.{Tree, Op, nil, operands, forest}
use Rattle.spec_tree.specs.Rows.{Row, row_sym, row_const, row_op, at, tree_of_row, trees_from, trees, occurrences, within_limits}
use Rattle.spec_tree.specs.Passes.{operands_ok}
use Rattle.spec_tree.specs.Layout.{row_ok, rows_ok, table_of, table_words, in_domain, sheet_fits, loadable, laid_out}
use Rattle.spec_tree.specs.Tokens.{word, constant_code, name_code, tokens, tokens_of, all_tokens, number_in}
use Rattle.spec_tree.proofs.Tests.{every_less}
use Rattle.spec_tree.proofs.DomainPasses.{Domain, domain}
use Rattle.spec_tree.proofs.TokenCode.{all_tokens_length}
use Rattle.spec_tree.proofs.Logic.{and_left, and_right}
use Rattle.spec_tree.proofs.TreeLaws.{eq_bytes_sound}
use Rattle.node_rows.specs.unfolded.Unfold.{row_count, rows_in, row_at, trees_of_rows, operand_rows, run, runs, RowsLaid}
use Rattle.node_rows.proofs.unfolded.RowLaws.{stands}
use Rattle.spec_tree.proofs.LayoutLaws.{rows_long}

-- ---- each of a list's numbers below a bound

pub below_at : (m : ℕ) (ns : List ℕ) (i : ℕ) → T (every (λ n. ltb n m) ns) → i < length ns → get_or ns i 0 < m
unfolding every
below_at m [] i t h = absurd (omega arith)
below_at m (n ∷ ns) zero t h = ltb→lt n m (and_left (ltb n m) (every (λ k. ltb k m) ns) t)
below_at m (n ∷ ns) (suc i) t h = below_at m ns i (and_right (ltb n m) (every (λ k. ltb k m) ns) t) (omega arith)

-- ---- the tree of a row

-- the trees that rows add
more : List Tree → List Row → List Tree
more ts [] = []
more ts (r ∷ l) = tree_of_row ts r ∷ more (ts ++ (tree_of_row ts r ∷ [])) l

grown : (ts : List Tree) (l : List Row) → trees_from ts l ≡ ts ++ more ts l
unfolding trees_from more
grown ts [] = sym (append-nil ts)
grown ts (r ∷ l) = let t = tree_of_row ts r in rw (grown (ts ++ (t ∷ [])) l, append_assoc ts (t ∷ []))

at_earlier : (ts us : List Tree) (ns : List ℕ) → T (every (λ n. ltb n (length ts)) ns) → at (ts ++ us) ns ≡ at ts ns
unfolding at every
at_earlier ts us [] t = refl
at_earlier ts us (n ∷ ns) t =
    ap₂ ◌∷◌ (get_or-append ts us (Op 0 nil) n (ltb→lt n (length ts) (and_left (ltb n (length ts)) (every (λ k. ltb k (length ts)) ns) t)))
    (at_earlier ts us ns (and_right (ltb n (length ts)) (every (λ k. ltb k (length ts)) ns) t))

row_earlier : (ts us : List Tree) (r : Row) → T (row_ok (length ts) r) → tree_of_row (ts ++ us) r ≡ tree_of_row ts r
unfolding tree_of_row row_ok
row_earlier ts us (row_sym s) t = refl
row_earlier ts us (row_const c) t = refl
row_earlier ts us (row_op k ns) t =
    ap (λ (l : List Tree). Op k (forest l)) (at_earlier ts us ns (and_right (operands_ok k (length ns)) (every (λ n. ltb n (length ts)) ns) t))

-- operands are earlier, so a row's tree is the same among all of them
tree_is :
    (l : List Row) (ts : List Tree) (i : ℕ) → i < length l → T (rows_ok (length ts) l)
    → get_or (trees_from ts l) (length ts + i) (Op 0 nil) ≡ tree_of_row (trees_from ts l) (get_or l i (row_op 0 []))
unfolding trees_from rows_ok more
tree_is [] ts i h t = absurd (omega arith)
tree_is (r ∷ l) ts zero h t =
    let ok = and_left (row_ok (length ts) r) (rows_ok (suc (length ts)) l) t in
    rw (grown ts (r ∷ l), get_or-append-add ts (more ts (r ∷ l)) 0 (Op 0 nil)) (sym (row_earlier ts (more ts (r ∷ l)) r ok))
tree_is (r ∷ l) ts (suc i) h t =
    let us = ts ++ (tree_of_row ts r ∷ []) in
    let n : length us ≡ suc (length ts) = length-append ts (tree_of_row ts r ∷ []) ∙ add-one (length ts) in
    let e : length us + i ≡ length ts + suc i = omega arith in
    let ok = subst (λ (m : ℕ). T (rows_ok m l)) (sym n) (and_right (row_ok (length ts) r) (rows_ok (suc (length ts)) l) t) in
    subst (λ (m : ℕ). get_or (trees_from us l) m (Op 0 nil) ≡ tree_of_row (trees_from us l) (get_or l i (row_op 0 []))) e (tree_is l us i (omega arith) ok)

-- ---- the words of a row's tree

module _ (number : List ℕ → ℕ) where
  unfoldable pub row_word : Row → ℕ
  row_word (row_sym s) = word 0 (3 * number s)
  row_word (row_const c) = word 1 (constant_code c)
  row_word (row_op k ns) = word k (length ns)

  tokens_of_forest : (l : List Tree) → tokens_of number (forest l) ≡ all_tokens number l
  unfolding forest tokens all_tokens
  tokens_of_forest [] = refl
  tokens_of_forest (t ∷ l) = ap (λ (w : List ℕ). tokens number t ++ w) (tokens_of_forest l)

  operands_long : (ts : List Tree) (ns : List ℕ) → length (operands (forest (at ts ns))) ≡ length ns
  unfolding operands forest at
  operands_long ts [] = refl
  operands_long ts (n ∷ ns) = ap suc (operands_long ts ns)

  row_tokens : (ts : List Tree) (r : Row) → tokens number (tree_of_row ts r) ≡ row_word r ∷ all_tokens number (at ts (operand_rows r))
  unfolding tree_of_row tokens name_code all_tokens row_word operand_rows at
  row_tokens ts (row_sym s) = refl
  row_tokens ts (row_const c) = refl
  row_tokens ts (row_op k ns) = ap₂ (λ (n : ℕ) (l : List ℕ). word k n ∷ l) (operands_long ts ns) (tokens_of_forest (at ts ns))

-- ---- runs

pub run_is : {ws : List ℕ} → RowsLaid ws → (i : ℕ) → i < row_count ws → run ws i ≡ row_word (number_in (rows_in ws)) (row_at ws i) ∷ runs ws (operand_rows (row_at ws i))
unfolding run runs rows_in row_at trees_of_rows
run_is {ws} laid i h =
    let number = number_in (rows_in ws) in
    let ts = trees_of_rows ws in
    let l : i < length (rows_in ws) = rw (rows_long (row_count ws) ws) h in
    let e : get_or ts i (Op 0 nil) ≡ tree_of_row ts (row_at ws i) =
    subst (λ (n : ℕ). get_or ts n (Op 0 nil) ≡ tree_of_row ts (row_at ws i)) (zero-add i) (tree_is (rows_in ws) [] i l laid.good) in
    ap (tokens number) e ∙ row_tokens number ts (row_at ws i)

pub runs_append : (ws a b : List ℕ) → runs ws (a ++ b) ≡ runs ws a ++ runs ws b
unfolding runs run at all_tokens
runs_append ws [] b = refl
runs_append ws (n ∷ a) b = rw (runs_append ws a b) (sym (append_assoc (run ws n) (runs ws a) (runs ws b)))

pub runs_none : (ws : List ℕ) → runs ws [] ≡ []
unfolding runs at all_tokens
runs_none ws = refl

pub runs_one : (ws : List ℕ) (n : ℕ) (ns : List ℕ) → runs ws (n ∷ ns) ≡ run ws n ++ runs ws ns
unfolding runs run at all_tokens
runs_one ws n ns = refl

pub runs_more : (ws ns : List ℕ) (i : ℕ) → i < length ns → runs ws (take (i + 1) ns) ≡ runs ws (take i ns) ++ run ws (get_or ns i 0)
runs_more ws ns i h =
    rw (
      add-one,
      take-suc ns i 0 h,
      runs_append ws (take i ns) (get_or ns i 0 ∷ []),
      runs_one ws (get_or ns i 0) [],
      runs_none ws,
      append-nil (run ws (get_or ns i 0)),
    )

-- what is written before i and at i is no more than all
pub runs_room : (ws ns : List ℕ) (i : ℕ) → i < length ns → length (runs ws (take i ns)) + length (run ws (get_or ns i 0)) ≤ length (runs ws ns)
runs_room ws ns i h =
    let n = get_or ns i 0 in
    let rest = drop (suc i) ns in
    let e : runs ws ns ≡ runs ws (take i ns) ++ (run ws n ++ runs ws rest) =
    ap (runs ws) (split_at ns i 0 h) ∙ runs_append ws (take i ns) (n ∷ rest) ∙ ap (λ (l : List ℕ). runs ws (take i ns) ++ l) (runs_one ws n rest) in
    omega (arith, ap length e, length-append (runs ws (take i ns)) (run ws n ++ runs ws rest), length-append (run ws n) (runs ws rest))

-- ---- a bound on a list's numbers, by which the recursion falls

unfoldable pub bound : List ℕ → ℕ
bound [] = 0
bound (n ∷ ns) = max (suc n) (bound ns)

pub bound_at : (ns : List ℕ) (i : ℕ) → i < length ns → get_or ns i 0 < bound ns
unfolding bound
bound_at [] i h = absurd (omega arith)
bound_at (n ∷ ns) zero h = omega arith
bound_at (n ∷ ns) (suc i) h = omega (arith, bound_at ns i (omega arith))

pub bound_of : (m : ℕ) (ns : List ℕ) → T (every (λ n. ltb n m) ns) → bound ns ≤ m
unfolding bound every
bound_of m [] t = omega arith
bound_of m (n ∷ ns) t =
    omega (arith, ltb→lt n m (and_left (ltb n m) (every (λ k. ltb k m) ns) t), bound_of m ns (and_right (ltb n m) (every (λ k. ltb k m) ns) t))

-- the operands of a row are earlier
pub operands_earlier : {ws : List ℕ} → RowsLaid ws → (i : ℕ) → i < row_count ws → T (every (λ n. ltb n i) (operand_rows (row_at ws i)))
unfolding row_ok operand_rows every
operands_earlier {ws} laid i h = go (row_at ws i) (stands laid i h).tested
  where
    go : (r : Row) → T (row_ok i r) → T (every (λ n. ltb n i) (operand_rows r))
    go (row_sym s) t = tt
    go (row_const c) t = tt
    go (row_op k ns) t = and_right (operands_ok k (length ns)) (every (λ n. ltb n i) ns) t

-- ---- words that are laid out, with their roots

module _ (ws roots : List ℕ) (t : T (laid_out ws roots)) where
  limits : Domain (table_of ws roots)
  unfolding laid_out loadable
  limits =
      let table = table_of ws roots in
      domain table (and_left (in_domain table) (sheet_fits table) (and_right (eq_bytes (table_words table.rows) ws) (loadable table) t))

  count_is : length (table_of ws roots).rows ≡ row_count ws
  unfolding table_of row_count
  count_is = rows_long (row_count ws) ws

  pub laid : RowsLaid ws
  unfolding laid_out table_of rows_in row_count
  laid =
      let rows = (table_of ws roots).rows in
      record {
        whole = eq_bytes_sound (table_words rows) ws (and_left (eq_bytes (table_words rows) ws) (loadable (table_of ws roots)) t);
        good = limits.good_rows;
        few = omega (arith, count_is, limits.few_rows);
      }

  pub roots_below : T (every (λ n. ltb n (row_count ws)) roots)
  unfolding table_of
  roots_below = every_less (length (table_of ws roots).rows) (row_count ws) (omega (arith, count_is)) roots limits.good_roots

  -- the words of the roots' trees
  pub runs_are : runs ws roots ≡ all_tokens (number_in (table_of ws roots).rows) (trees (table_of ws roots))
  unfolding runs trees trees_of_rows rows_in table_of row_count
  runs_are = refl

  -- there are at most 1,024
  pub runs_few : length (runs ws roots) ≤ 1024
  unfolding within_limits
  runs_few =
      let ts = trees (table_of ws roots) in
      let rows = (table_of ws roots).rows in
      let o = leb→le (occurrences ts) 1024 (and_left (leb (occurrences ts) 1024) _ limits.limited) in
      omega (arith, o, ap length runs_are, all_tokens_length (number_in rows) ts)
