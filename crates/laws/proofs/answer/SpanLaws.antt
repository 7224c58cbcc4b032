-- Spans of rows (AnswerRows): how many stand below each kind of row, and the spans that a tree's words are. Assumes nothing.
use Prim.Native.Nat.{ℕ, zero, suc, ◌+◌, ◌*◌, ◌/◌, ◌%◌, ◌≤◌, ◌<◌}
use native.Mathlib.Omega.{arith}
use mathlib.Core.Path.{◌≡◌, refl, ◌∙◌, ap, ap₂}
use mathlib.Core.Bool.{Bool, ◌&&◌}
use mathlib.Core.List.{List, [], ◌∷◌, ◌++◌, append_assoc}
use borrow.Author.Tests.{ne_eqb, le-leb, lt-leb}
use lib.ListN.{length}
use lib.Dec.{T, leb, ltb, leb→le, ltb→lt, lt→ltb}
use Rattle.spec_tree.specs.Kinds.{arity_ok}
use Rattle.spec_tree.specs.Tree.{Name, input, xname, mname, Tree, Forest, Sym, Const, Op, nil, ◌◂◌, operands, folds}
use Rattle.spec_tree.specs.Passes.{all_of, of_paper, symbol_ok, operands_ok, tree_ok}
use Rattle.spec_tree.specs.Tokens.{word, constant_code, name_code, tokens, tokens_of, kind_of, below_of, name_by}
use Rattle.spec_tree.proofs.Logic.{and_left, and_right, and_both}
use Rattle.spec_tree.proofs.KindLaws.{arity_kind}
use Rattle.spec_tree.proofs.TokenLaws.{symbol_tree, constant_tree, operation_tree, forest_operands}
use Rattle.spec_tree.proofs.TokenCode.{known_name, constant_back}
use Rattle.spec_rewrite.proofs.Names.{holds, holds_each}
use Rattle.laws.specs.answer.Fitting.{an_operation_kind, fitting, fitting_each}
use Rattle.spec_cse.specs.AnswerRows.{Span, Spans, span, no_span, spans, take_spans, drop_spans, stands_below, read_spans, tree_of_span, trees_of_spans}

-- ---- spans one after another

unfoldable pub join : Spans → Spans → Spans
join no_span r = r
join (spans p l) r = spans p (join l r)

unfoldable pub span_count : Spans → ℕ
span_count no_span = 0
span_count (spans p l) = suc (span_count l)

pub take_join : (l r : Spans) (n : ℕ) → span_count l ≡ n → take_spans n (join l r) ≡ l
unfolding join span_count take_spans
take_join no_span r zero e = refl
take_join no_span r (suc n) e = absurd (omega arith)
take_join (spans p l) r zero e = absurd (omega arith)
take_join (spans p l) r (suc n) e = ap (spans p) (take_join l r n (omega arith))

pub drop_join : (l r : Spans) (n : ℕ) → span_count l ≡ n → drop_spans n (join l r) ≡ r
unfolding join span_count drop_spans
drop_join no_span r zero e = refl
drop_join no_span r (suc n) e = absurd (omega arith)
drop_join (spans p l) r zero e = absurd (omega arith)
drop_join (spans p l) r (suc n) e = drop_join l r n (omega arith)

pub join_assoc : (a b c : Spans) → join (join a b) c ≡ join a (join b c)
unfolding join
join_assoc no_span b c = refl
join_assoc (spans p a) b c = ap (spans p) (join_assoc a b c)

pub count_join : (a b : Spans) → span_count (join a b) ≡ span_count a + span_count b
unfolding join span_count
count_join no_span b = omega arith
count_join (spans p a) b = omega (arith, count_join a b)

-- a row in front of as many spans as stand below it
pub read_row : (w n : ℕ) (ws : List ℕ) (l r : Spans) → stands_below w ≡ n → span_count l ≡ n → read_spans ws ≡ join l r → read_spans (w ∷ ws) ≡ spans (span w l) r
unfolding read_spans
read_row w n ws l r s c e = rw (e, s, take_join l r n c, drop_join l r n c)

-- ---- how many stand below a row

pub below_leaf : (w : ℕ) → kind_of w ≤ 1 → stands_below w ≡ 0
unfolding stands_below
below_leaf w h = rw (le-leb (kind_of w) 1 h)

-- an operation, a match or an arm
pub below_many : (w : ℕ) → 1 < kind_of w → kind_of w < 35 → (kind_of w ≡ 29 → ⊥) → (kind_of w ≡ 33 → ⊥) → stands_below w ≡ below_of w
unfolding stands_below
below_many w low high l n = rw (lt-leb (kind_of w) 1 low, ne_eqb (kind_of w) 33 n, ne_eqb (kind_of w) 29 l, lt-leb 35 (kind_of w) high)

pub below_name : (w : ℕ) → kind_of w ≡ 33 → stands_below w ≡ 0
unfolding stands_below
below_name w h = rw h

pub below_let : (w : ℕ) → kind_of w ≡ 29 → stands_below w ≡ 1
unfolding stands_below
below_let w h = rw h

-- a value or a result
pub below_each : (w : ℕ) → 35 ≤ kind_of w → stands_below w ≡ 1
unfolding stands_below
below_each w h =
    let a : 1 < kind_of w = omega arith in
    let n : kind_of w ≡ 33 → ⊥ = λ e. omega arith in
    let l : kind_of w ≡ 29 → ⊥ = λ e. omega arith in
    rw (lt-leb (kind_of w) 1 a, ne_eqb (kind_of w) 33 n, ne_eqb (kind_of w) 29 l, le-leb 35 (kind_of w) h)

-- ---- trees that are spans

abbrev tests : Forest → List Bool
tests f = folds symbol_ok of_paper (λ k l. operands_ok k (length l) && all_of l) f

operation_kind : (k n : ℕ) → T (operands_ok k n) → T (an_operation_kind k)
unfolding operands_ok
operation_kind k n h = and_both (leb 2 k) (ltb k 29) (and_left (leb 2 k) (arity_ok k n) h) (lt→ltb k 29 (arity_kind k n (and_right (leb 2 k) (arity_ok k n) h)))

module _ (known : List ℕ → Bool) where
  mutual
    unfolding fitting holds tree_ok all_of

    pub ok_fitting : (t : Tree) → T (tree_ok t) → T (holds (known_name known) t) → T (fitting known t)
    ok_fitting (Sym n) h g = g
    ok_fitting (Const c) h g = tt
    ok_fitting (Op k f) h g =
        and_both (an_operation_kind k) (fitting_each known f)
        (operation_kind k (length (tests f)) (and_left (operands_ok k (length (tests f))) (all_of (tests f)) h))
        (each_fitting f (and_right (operands_ok k (length (tests f))) (all_of (tests f)) h) g)

    each_fitting : (f : Forest) → T (all_of (tests f)) → T (holds_each (known_name known) f) → T (fitting_each known f)
    each_fitting nil h g = tt
    each_fitting (t ◂ f) h g =
        and_both (fitting known t) (fitting_each known f)
        (ok_fitting t (and_left (tree_ok t) (all_of (tests f)) h) (and_left (holds (known_name known) t) (holds_each (known_name known) f) g))
        (each_fitting f (and_right (tree_ok t) (all_of (tests f)) h) (and_right (holds (known_name known) t) (holds_each (known_name known) f) g))

-- ---- the spans of a tree

module _ (number : List ℕ → ℕ) where
  unfoldable mutual
    unfolding name_code constant_code operands

    pub tree_span : Tree → Span
    tree_span (Sym n) = span (word 0 (name_code number n)) no_span
    tree_span (Const c) = span (word 1 (constant_code c)) no_span
    tree_span (Op k f) = span (word k (length (operands f))) (tree_spans f)

    pub tree_spans : Forest → Spans
    tree_spans nil = no_span
    tree_spans (t ◂ f) = spans (tree_span t) (tree_spans f)

  spans_counted : (f : Forest) → span_count (tree_spans f) ≡ length (operands f)
  unfolding span_count tree_spans operands
  spans_counted nil = refl
  spans_counted (t ◂ f) = ap suc (spans_counted f)

  module _ (known : List ℕ → Bool) where
    mutual
      unfolding fitting tokens tree_span join span_count

      pub read_tree_span : (t : Tree) → T (fitting known t) → (more : List ℕ) → read_spans (tokens number t ++ more) ≡ spans (tree_span t) (read_spans more)
      read_tree_span (Sym n) h more =
          let w = word 0 (name_code number n) in
          read_row w 0 more no_span (read_spans more) (below_leaf w (omega arith)) refl refl
      read_tree_span (Const c) h more =
          let w = word 1 (constant_code c) in
          read_row w 0 more no_span (read_spans more) (below_leaf w (omega arith)) refl refl
      read_tree_span (Op k f) h more =
          let a = and_left (an_operation_kind k) (fitting_each known f) h in
          let low = leb→le 2 k (and_left (leb 2 k) (ltb k 29) a) in
          let high = ltb→lt k 29 (and_right (leb 2 k) (ltb k 29) a) in
          let n = length (operands f) in
          let w = word k n in
          let e : kind_of w ≡ k = omega arith in
          let b : below_of w ≡ n = omega arith in
          let s = below_many w (omega arith) (omega arith) (λ q. omega arith) (λ q. omega arith) in
          read_row w n (tokens_of number f ++ more) (tree_spans f) (read_spans more) (s ∙ b) (spans_counted f)
          (read_tree_spans f (and_right (an_operation_kind k) (fitting_each known f) h) more)

      pub read_tree_spans : (f : Forest) → T (fitting_each known f) → (more : List ℕ) → read_spans (tokens_of number f ++ more) ≡ join (tree_spans f) (read_spans more)
      read_tree_spans nil h more = refl
      read_tree_spans (t ◂ f) h more =
          rw (append_assoc (tokens number t) (tokens_of number f) more)
          (read_tree_span t (and_left (fitting known t) (fitting_each known f) h) (tokens_of number f ++ more)
          ∙ ap (spans (tree_span t)) (read_tree_spans f (and_right (fitting known t) (fitting_each known f) h) more))

-- ---- a tree's span gives the tree back where its names come back

module _ (number : List ℕ → ℕ) (name_at : ℕ → List ℕ) (known : List ℕ → Bool) (back : (s : List ℕ) → T (known s) → name_at (number s) ≡ s) where
  pub name_back : (n : Name) → T (known_name known n) → name_by name_at (name_code number n % 3) (name_code number n / 3) ≡ n
  unfolding name_by name_code known_name
  name_back (input s) h =
      let m : (3 * number s) % 3 ≡ 0 = omega arith in
      let d : (3 * number s) / 3 ≡ number s = omega arith in
      rw (m, d) (ap input (back s h))
  name_back (xname n) h =
      let m : (1 + 3 * n) % 3 ≡ 1 = omega arith in
      let d : (1 + 3 * n) / 3 ≡ n = omega arith in
      rw (m, d)
  name_back (mname n) h =
      let m : (2 + 3 * n) % 3 ≡ 2 = omega arith in
      let d : (2 + 3 * n) / 3 ≡ n = omega arith in
      rw (m, d)

  mutual
    unfolding fitting tree_span tree_of_span operands

    pub span_tree : (t : Tree) → T (fitting known t) → tree_of_span name_at (tree_span number t) ≡ t
    span_tree (Sym n) h =
        let w = word 0 (name_code number n) in
        let k : kind_of w ≡ 0 = omega arith in
        let b : below_of w ≡ name_code number n = omega arith in
        symbol_tree name_at w [] k ∙ rw b (ap Sym (name_back n h))
    span_tree (Const c) h =
        let w = word 1 (constant_code c) in
        let k : kind_of w ≡ 1 = omega arith in
        let b : below_of w ≡ constant_code c = omega arith in
        constant_tree name_at w [] k ∙ rw b (ap Const (constant_back c))
    span_tree (Op k f) h =
        let a = and_left (an_operation_kind k) (fitting_each known f) h in
        let low = leb→le 2 k (and_left (leb 2 k) (ltb k 29) a) in
        let high = ltb→lt k 29 (and_right (leb 2 k) (ltb k 29) a) in
        let w = word k (length (operands f)) in
        let e : kind_of w ≡ k = omega arith in
        operation_tree name_at w (trees_of_spans name_at (tree_spans number f)) (omega arith)
        ∙ rw (e, span_trees f (and_right (an_operation_kind k) (fitting_each known f) h)) (ap (Op k) (forest_operands f))

    pub span_trees : (f : Forest) → T (fitting_each known f) → trees_of_spans name_at (tree_spans number f) ≡ operands f
    span_trees nil h = refl
    span_trees (t ◂ f) h =
        ap₂ ◌∷◌ (span_tree t (and_left (fitting known t) (fitting_each known f) h)) (span_trees f (and_right (fitting known t) (fitting_each known f) h))
