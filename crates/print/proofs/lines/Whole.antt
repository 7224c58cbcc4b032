-- The lines of an answer whose statements are all lets, one after another, are its text, and each next place is that of the next row (01, "Sheet and printing"). Where no
-- expression has more than 1,024 nodes, 34,857 bytes are room for each. Assumes nothing.
use Prim.Native.Nat.{ℕ, zero, suc, ◌+◌, ◌*◌, ◌/◌, ◌%◌, ◌≤◌, ◌<◌, ◌^◌}
use native.Mathlib.Omega.{arith}
use mathlib.Core.Path.{◌≡◌, refl, sym, ap, ◌∙◌, subst}
use mathlib.Core.Bool.{Bool, true, false, cond}
use mathlib.Core.Option.{Option, none, some}
use mathlib.Core.List.{List, [], ◌∷◌, ◌++◌, append_assoc}
use borrow.Author.Tests.{lt-ltb, le-ltb, eq-eqb, ne_eqb}
use lib.ListN.{length, get_or}
use lib.Dec.{T, ltb}
use Rattle.spec_tree.specs.Tree.{Name, xname, Tree}
use Rattle.spec_tree.specs.Facts.{size}
use Rattle.spec_tree.specs.Passes.{tree_ok}
use Rattle.spec_tree.specs.Tokens.{tokens, number_in}
use Rattle.spec_tree.specs.text.Text.{display}
use Rattle.spec_cse.specs.Answer.{Intermediates, Answer, Let, Match, end, step, displays, stmt_text, stmts_texts, lines, answer_text}
use Rattle.spec_cse.specs.AnswerRows.{result_row, each_words, intermediate_words, intermediates_words, answer_words, intermediates_ok}
use Rattle.laws.specs.answer.Fitting.{stmts_fitting, numbered_in}
use Rattle.fmt.specs.checked.Check.{rows_in}
use Rattle.fmt.specs.shapes.Places.{tree_here, Stands}
use Rattle.fmt.proofs.shapes.PlaceLaws.{run_is_size}
use Rattle.fmt.proofs.shapes.NodeLaws.{names}
use Rattle.print.specs.told.Places.{At, TreeAt}
use Rattle.print.specs.told.Writers.{AnswerAt, ResultsAt}
use Rattle.print.proofs.told.PieceLaws.{stmts_cons, stmts_none}
use Rattle.print.proofs.told.PlaceLaws.{tree_run, tree_is, each_none, value_in, value_row_is, value_tree, value_others, value_words}
use Rattle.print.proofs.told.PartLaws.{let_parts, first_stmt, stmts_pass, stmts_fit, after_stmt, stmt_length}
use Rattle.print.proofs.told.LoopLaws.{displays_cons}
use Rattle.print.specs.lines.Line.{Spoken, starts_line, row_line, line_of, prepend, lines_from, all_lets, FewLets, Few}
use Rattle.print.proofs.lines.RowLaws.{starts_result, starts_let}
use Rattle.print.proofs.lines.LineLaws.{line_here}
use Rattle.print.proofs.lines.Room.{line_short}

lines_cons : (s : List ℕ) (l : List (List ℕ)) → lines (s ∷ l) ≡ s ++ (10 ∷ lines l)
unfolding lines
lines_cons s l = refl

-- ---- a line and those after it

module _ (lent : ℕ) (rows ws : List ℕ) where
  abbrev written : ℕ → Spoken → Bool → Option (List ℕ)
  written n s b = elim b [ true ↦ none | false ↦ prepend s.text (lines_from lent n rows ws s.next) ]

  abbrev others : ℕ → Option Spoken → Option (List ℕ)
  others n o = elim o [ none ↦ none | some s ↦ written n s (ltb lent (length s.text)) ]

  past : (n at : ℕ) → length ws ≤ at → lines_from lent n rows ws at ≡ some []
  unfolding lines_from
  past zero at h = ap (λ (b : Bool). cond b none (some [])) (le-ltb at (length ws) h)
  past (suc n) at h = go (ltb at (length ws)) (le-ltb at (length ws) h)
    where
      go : (b : Bool) → b ≡ false → ◌≡◌ {A = Option (List ℕ)} (elim b [ false ↦ some [] | true ↦ others n (line_of rows ws at) ]) (some [])
      go true e = absurd (let z : ◌≡◌ {A = ℕ} 0 1 = cc in omega arith)
      go false e = refl

  one_more : (n at : ℕ) (s : Spoken) (rest : List ℕ) → at < length ws → line_of rows ws at ≡ some s → length s.text ≤ lent → lines_from lent n rows ws s.next ≡ some rest
      → lines_from lent (suc n) rows ws at ≡ some (s.text ++ rest)
  unfolding lines_from prepend
  one_more n at s rest h e m f = go (ltb at (length ws)) (lt-ltb at (length ws) h)
    where
      go : (b : Bool) → b ≡ true → ◌≡◌ {A = Option (List ℕ)} (elim b [ false ↦ some [] | true ↦ others n (line_of rows ws at) ]) (some (s.text ++ rest))
      go true i = ap (others n) e ∙ (ap (written n s) (le-ltb lent (length s.text) m) ∙ ap (prepend s.text) f)
      go false i = absurd (let z : ◌≡◌ {A = ℕ} 0 1 = cc in omega arith)

module _ (lent : ℕ) (room : 34857 ≤ lent) (rows ws : List ℕ) (words : (i : ℕ) → get_or ws i 0 < 2 ^ 64) where
  abbrev number : List ℕ → ℕ
  number = number_in (rows_in rows)

  -- ---- the tree that a row has below it

  module _ (at : ℕ) (t : Tree) (h : TreeAt (rows_in rows) ws (at + 1) t) where
    here : tree_here rows ws (at + 1) ≡ t
    unfolding tree_here
    here = tree_is (rows_in rows) ws t h

    runs : length (tokens number t) ≡ size (tree_here rows ws (at + 1))
    unfolding tree_here
    runs = run_is_size (names rows) ws (at + 1) (length (tokens number t)) (tree_run (rows_in rows) ws t h)

    stands : Stands rows ws (at + 1)
    stands = record { run = tree_run (rows_in rows) ws t h ∙ ap some runs; good = subst (λ (x : Tree). T (tree_ok x)) (sym here) h.passes }

    line_is : true ≡ starts_line (get_or ws at 0) → line_of rows ws at ≡ some (record { text = row_line (get_or ws at 0) t; next = at + 1 + length (tokens number t) })
    line_is b =
        line_here rows ws at b stands
        ∙ (ap (λ (x : Tree). some (record { text = row_line (get_or ws at 0) x; next = at + 1 + size (tree_here rows ws (at + 1)) })) here
        ∙ ap (λ (n : ℕ). some (record { text = row_line (get_or ws at 0) t; next = at + 1 + n })) (sym runs))

    line_fits : size t ≤ 1024 → length (row_line (get_or ws at 0) t) ≤ lent
    line_fits few =
        let q = line_short rows ws at words stands (subst (λ (x : Tree). size x ≤ 1024) (sym here) few) in
        let z : length (row_line (get_or ws at 0) (tree_here rows ws (at + 1))) ≡ length (row_line (get_or ws at 0) t) = ap (λ (x : Tree). length (row_line (get_or ws at 0) x)) here in
        omega arith

  -- ---- results

  result_line : (w : ℕ) (t : Tree) → w ≡ 36 → row_line w t ≡ display t ++ (10 ∷ [])
  unfolding row_line
  result_line w t e = rw (eq-eqb w 36 e)

  results_lines : (vs : List Tree) (n at : ℕ) → ResultsAt (rows_in rows) ws at vs → Few vs → length ws ≤ at + n → lines_from lent n rows ws at ≡ some (lines (displays vs))
  results_lines [] n at h few g = past lent rows ws n at (omega (arith, h.last, ap length (each_none (rows_in rows) result_row))) ∙ (unfold displays in (unfold lines in refl))
  results_lines (t ∷ l) zero at h few g = absurd (omega (arith, value_in (rows_in rows) ws t l h.here))
  results_lines (t ∷ l) (suc n) at h few g =
      let r = value_row_is (rows_in rows) ws t l h.here in
      let s : Spoken = record { text = row_line (get_or ws at 0) t; next = at + 1 + length (tokens number t) } in
      let more = results_lines l n (at + 1 + length (tokens number t))
      (record { here = value_others (rows_in rows) ws t l h.here; last = omega (arith, value_words (rows_in rows) ws t l h.here, h.last) }) few.1 (omega arith) in
      let v = value_tree (rows_in rows) ws t l h.here in
      let e = one_more lent rows ws n at s (lines (displays l)) (value_in (rows_in rows) ws t l h.here) (line_is at t v (starts_result (get_or ws at 0) r)) (line_fits at t v few.0) more in
      e ∙ ap some (ap (λ (x : List ℕ). x ++ lines (displays l)) (result_line (get_or ws at 0) t r) ∙ (append_assoc (display t) (10 ∷ []) (lines (displays l))
      ∙ (sym (lines_cons (display t) (displays l)) ∙ ap lines (sym (displays_cons t l)))))

  -- ---- lets

  let_line : (w : ℕ) (n : Name) (t : Tree) (made : ℕ) → w % 64 ≡ 29 → w / 64 ≡ 1 + 3 * made → n ≡ xname made → row_line w t ≡ stmt_text (Let n t) ++ (10 ∷ [])
  unfolding row_line
  let_line w n t made k c e =
      let d : w / 64 / 3 ≡ made = omega arith in
      let o : (w ≡ 36 → ⊥) = (λ q. omega arith) in
      rw (ne_eqb w 36 o, d, e)

  begins_let : (w made : ℕ) → w % 64 ≡ 29 → w / 64 ≡ 1 + 3 * made → true ≡ starts_line w
  begins_let w made k c =
      let d : w / 64 % 3 ≡ 1 = omega arith in
      let o : (w ≡ 36 → ⊥) = (λ q. omega arith) in
      sym (eq-eqb (w / 64 % 3) 1 d) ∙ starts_let w o k

  module _ (a : Answer) (h : AnswerAt (rows_in rows) ws a) (results_few : Few a.results) where
    abbrev results : List ℕ
    results = each_words number result_row a.results

    abbrev left : Intermediates → List ℕ
    left l = intermediates_words number l ++ results

    abbrev texts : Intermediates → List (List ℕ)
    texts l = stmts_texts l ++ displays a.results

    only_results : (at : ℕ) → At ws at (left end) → at + length (left end) ≡ length ws → ResultsAt (rows_in rows) ws at a.results
    unfolding intermediates_words
    only_results at g k = record { here = record { count = refl; passes = h.results; fits = h.results_fit; here = g }; last = k }

    bindings_lines : (l : Intermediates) (n at : ℕ) → T (all_lets l) → T (intermediates_ok l) → T (stmts_fitting (numbered_in (rows_in rows)) l) → At ws at (left l)
        → at + length (left l) ≡ length ws → FewLets l → length ws ≤ at + n → lines_from lent n rows ws at ≡ some (lines (texts l))
    unfolding all_lets
    bindings_lines end n at t p f g k few m =
        results_lines a.results n at (only_results at g k) results_few m ∙ ap (λ (d : List (List ℕ)). some (lines (d ++ displays a.results))) (sym stmts_none)
    bindings_lines (step (Match kind key ns arms) l) n at t p f g k few m = absurd t
    bindings_lines (step (Let x e) l) zero at t p f g k few m =
        absurd (omega (arith, (let_parts (rows_in rows) ws x e at (first_stmt (rows_in rows) ws (Let x e) l results p f g)).inside))
    bindings_lines (step (Let x e) l) (suc n) at t p f g k few m =
        let c = let_parts (rows_in rows) ws x e at (first_stmt (rows_in rows) ws (Let x e) l results p f g) in
        let s : Spoken = record { text = row_line (get_or ws at 0) e; next = at + 1 + length (tokens number e) } in
        let z : at + length (intermediate_words number (Let x e)) ≡ at + 1 + length (tokens number e) = sym c.words in
        let q = stmt_length (rows_in rows) ws (Let x e) l results p f g in
        let more = bindings_lines l n (at + 1 + length (tokens number e)) t (stmts_pass (rows_in rows) ws (Let x e) l results p f g) (stmts_fit (rows_in rows) ws (Let x e) l results p f g)
        (subst (λ (j : ℕ). At ws j (left l)) z (after_stmt (rows_in rows) ws (Let x e) l results p f g)) (omega (arith, z, q, k)) few.1 (omega arith) in
        let b = begins_let (get_or ws at 0) c.made c.kind c.code in
        let y = one_more lent rows ws n at s (lines (texts l)) c.inside (line_is at e c.tree b) (line_fits at e c.tree few.0) more in
        y ∙ ap some (ap (λ (r : List ℕ). r ++ lines (texts l)) (let_line (get_or ws at 0) x e c.made c.kind c.code c.name)
        ∙ (append_assoc (stmt_text (Let x e)) (10 ∷ []) (lines (texts l))
        ∙ (sym (lines_cons (stmt_text (Let x e)) (texts l)) ∙ ap (λ (d : List (List ℕ)). lines (d ++ displays a.results)) (sym (stmts_cons (Let x e) l)))))

    append_nil : (l : List ℕ) → l ++ [] ≡ l
    append_nil [] = refl
    append_nil (w ∷ l) = ap (λ (r : List ℕ). w ∷ r) (append_nil l)

    words_are : answer_words number a ≡ left a.inters
    unfolding answer_words
    words_are = refl

    text_is : answer_text a ≡ lines (texts a.inters)
    unfolding answer_text
    text_is = refl

    -- no line is missing or too long, and the last ends where the rows do
    pub lines_are : (n : ℕ) → T (all_lets a.inters) → FewLets a.inters → length ws ≤ n → lines_from lent n rows ws 0 ≡ some (answer_text a)
    lines_are n t few m =
        let e = h.words ∙ words_are in
        bindings_lines a.inters n 0 t h.parts h.parts_fit (record { rest = []; words = e ∙ sym (append_nil (left a.inters)) }) (omega (arith, ap length e)) few (omega arith)
        ∙ ap some (sym text_is)
