-- How deep the rows of an answer stand below one another (AnswerRows): its trees have at most 1,024 nodes, and its arms nest at most 8 deep. Assumes nothing.
use Prim.Native.Nat.{ℕ, zero, suc, ◌+◌, ◌*◌, ◌≤◌, max}
use native.Mathlib.Omega.{arith}
use mathlib.Core.Path.{◌≡◌, refl, sym, ◌∙◌, ap, subst}
use mathlib.Core.Bool.{Bool, ◌&&◌}
use mathlib.Core.List.{List, [], ◌∷◌, ◌++◌, append-nil}
use lib.ListN.{length}
use lib.Dec.{T, leb, le→leb}
use Rattle.spec_tree.specs.Tree.{Name, Tree, Forest, Sym, Const, Op, nil, ◌◂◌}
use Rattle.spec_tree.specs.Facts.{size}
use Rattle.spec_rewrite.proofs.Measure.{sum_each, sizes, size_op, size_up}
use Rattle.spec_cse.specs.Answer.{Intermediate, Intermediates, Arms, Answer, Let, Match, end, step, no_arm, arm}
use Rattle.spec_cse.specs.AnswerRows.{value_row, result_row, intermediates_words, each_words, answer_words, Span, Spans, span, no_span, spans, read_spans, span_depth, spans_depth, deepest, no_deeper}
use Rattle.laws.specs.answer.Fitting.{all_fitting, stmts_fitting}
use Rattle.laws.proofs.answer.SpanLaws.{join, tree_span, tree_spans}
use Rattle.laws.proofs.answer.RowSpans.{name_spans, each_spans, stmt_span, stmt_spans, arm_spans, read_stmts, read_each}
use Rattle.guarantee.proofs.passing.Trees.{Fits, FitsAll}
use Rattle.guarantee.proofs.passing.Fusing.{OkStmt, OkStmts, OkArms}

join_depth : (a b : Spans) → spans_depth (join a b) ≡ max (spans_depth a) (spans_depth b)
unfolding join spans_depth
join_depth no_span b = omega arith
join_depth (spans p a) b = omega (arith, join_depth a b)

module _ (number : List ℕ → ℕ) where
  -- no deeper than it has nodes
  mutual
    unfolding tree_span spans_depth sum_each

    tree_depth : (t : Tree) → span_depth (tree_span number t) ≤ size t
    tree_depth (Sym n) = omega (arith, size_up (Sym n))
    tree_depth (Const c) = omega (arith, size_up (Const c))
    tree_depth (Op k f) = omega (arith, size_op k f, forest_depth f)

    forest_depth : (f : Forest) → spans_depth (tree_spans number f) ≤ sizes f
    forest_depth nil = omega arith
    forest_depth (t ◂ f) = omega (arith, tree_depth t, forest_depth f)

  names_depth : (ns : List Name) → spans_depth (name_spans number ns) ≤ 1
  unfolding name_spans spans_depth
  names_depth [] = omega arith
  names_depth (n ∷ l) = omega (arith, names_depth l)

  each_depth : (row : ℕ) (vs : List Tree) → FitsAll vs → spans_depth (each_spans number row vs) ≤ 1025
  unfolding each_spans spans_depth
  each_depth row [] h = omega arith
  each_depth row (t ∷ l) h = omega (arith, tree_depth t, h.0.1, each_depth row l h.1)

  mutual
    unfolding stmt_span spans_depth

    stmt_depth : (s : Intermediate) (n : ℕ) → OkStmt s n → span_depth (stmt_span number s) ≤ 2 * n + 1025
    stmt_depth (Let a e) n h = omega (arith, tree_depth e, h.1.1)
    stmt_depth (Match k key ns arms) n h =
        omega (arith, tree_depth key, h.1.0.1, join_depth (name_spans number ns) (arm_spans number arms), names_depth ns, arms_depth arms n h.1.1.1)

    stmts_depth : (l : Intermediates) (n : ℕ) → OkStmts l n → spans_depth (stmt_spans number l) ≤ 2 * n + 1025
    stmts_depth end n h = omega arith
    stmts_depth (step s l) n h = omega (arith, stmt_depth s n h.0, stmts_depth l n h.1)

    arms_depth : (l : Arms) (n : ℕ) → OkArms l n → spans_depth (arm_spans number l) ≤ 2 * n + 1024
    arms_depth no_arm n h = omega arith
    arms_depth (arm s vs l) zero h = absurd h
    arms_depth (arm s vs l) (suc n) h =
        omega (
          arith,
          join_depth (stmt_spans number s) (each_spans number value_row vs),
          stmts_depth s n h.0.0,
          each_depth value_row vs h.0.1,
          arms_depth l (suc n) h.1,
        )

  read_answer : (known : List ℕ → Bool) (a : Answer) → T (stmts_fitting known a.inters) → T (all_fitting known a.results)
      → read_spans (answer_words number a) ≡ join (stmt_spans number a.inters) (join (each_spans number result_row a.results) no_span)
  unfolding answer_words read_spans
  read_answer known a f g =
      read_stmts number known a.inters f (each_words number result_row a.results)
      ∙ ap (join (stmt_spans number a.inters))
      (ap read_spans (sym (append-nil (each_words number result_row a.results))) ∙ read_each number known result_row a.results [] (omega arith) (omega arith) g)

  pub rows_no_deeper : (known : List ℕ → Bool) (a : Answer) → T (stmts_fitting known a.inters) → T (all_fitting known a.results)
      → OkStmts a.inters 8 → FitsAll a.results → T (no_deeper (answer_words number a))
  unfolding no_deeper spans_depth
  rows_no_deeper known a f g h k =
      let s = stmt_spans number a.inters in
      let r = each_spans number result_row a.results in
      le→leb (spans_depth (read_spans (answer_words number a))) deepest
      (omega (arith, ap spans_depth (read_answer known a f g), join_depth s (join r no_span), join_depth r no_span, stmts_depth a.inters 8 h, each_depth result_row a.results k))
