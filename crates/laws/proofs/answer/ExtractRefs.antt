-- The references of an answer that extract gives are right over the rows of its table, so that its rows pass 13 where its parts are right. Assumes nothing.
use Prim.Native.Nat.{ℕ, zero, suc}
use mathlib.Core.Path.{◌≡◌, refl}
use mathlib.Core.Logic.{inl, inr}
use mathlib.Core.Bool.{Bool, true, not, ◌&&◌, ◌||◌}
use mathlib.Core.List.{List, [], ◌∷◌, ◌++◌}
use lib.ListN.{get_or}
use lib.Dec.{T}
use Rattle.spec_tree.specs.Outcome.{ok}
use Rattle.spec_tree.specs.Tree.{Name, input, Tree, Op, nil, forest}
use Rattle.spec_tree.specs.Rows.{Row, row_sym, row_const, row_op, Table, at, tree_of_row, trees_from, trees}
use Rattle.spec_tree.specs.Passes.{trees_ok}
use Rattle.spec_tree.specs.Tokens.{number_in}
use Rattle.spec_tree.proofs.Logic.{and_left, and_right, and_both, or_left, or_right, or_cases}
use Rattle.spec_rewrite.proofs.Names.{holds, holds_each, holds_all, holds_append}
use Rattle.spec_cse.specs.Answer.{Intermediate, Intermediates, Arms, Answer, Let, Match, end, step, no_arm, arm, names, symbols, all_symbols, elem}
use Rattle.spec_cse.specs.Scope.{answer}
use Rattle.spec_cse.specs.Demand.{bound_stmts, all_different, known, in_scope, stmt_in_scope, arms_in_scope, well_scoped}
use Rattle.spec_cse.specs.AnswerRows.{intermediates_ok, list_names, references_ok, answer_words, rows_of_answer}
use Rattle.laws.proofs.cse.Symbols.{elem_here, elem_later, holds_all_at}
use Rattle.laws.proofs.cse.AnyTable.{table_names_and_values}
use Rattle.laws.proofs.answer.LaidOut.{rows_laid}

-- ---- the symbols of a table's trees are its rows'

module _ (p : Name → Bool) where
  Listed : List Row → Type 0
  Listed l = (n : Name) → T (elem n (list_names l)) → T (p n)

  picked : (ts : List Tree) (n : ℕ) → T (holds_all p ts) → T (holds p (get_or ts n (Op 0 nil)))
  unfolding holds holds_all
  picked [] n h = tt
  picked (t ∷ ts) zero h = and_left (holds p t) (holds_all p ts) h
  picked (t ∷ ts) (suc n) h = picked ts n (and_right (holds p t) (holds_all p ts) h)

  all_picked : (ts : List Tree) (ns : List ℕ) → T (holds_all p ts) → T (holds_all p (at ts ns))
  unfolding holds_all at
  all_picked ts [] h = tt
  all_picked ts (n ∷ ns) h = and_both (holds p (get_or ts n (Op 0 nil))) (holds_all p (at ts ns)) (picked ts n h) (all_picked ts ns h)

  forest_holds : (ts : List Tree) → T (holds_all p ts) → T (holds_each p (forest ts))
  unfolding holds holds_all forest
  forest_holds [] h = tt
  forest_holds (t ∷ ts) h = and_both (holds p t) (holds_each p (forest ts)) (and_left (holds p t) (holds_all p ts) h) (forest_holds ts (and_right (holds p t) (holds_all p ts) h))

  row_holds : (ts : List Tree) (r : Row) (l : List Row) → Listed (r ∷ l) → T (holds_all p ts) → T (holds p (tree_of_row ts r))
  unfolding Listed holds tree_of_row list_names
  row_holds ts (row_sym s) l f h = f (input s) (elem_here (input s) (list_names l))
  row_holds ts (row_const c) l f h = tt
  row_holds ts (row_op k ns) l f h = forest_holds (at ts ns) (all_picked ts ns h)

  listed_rest : (r : Row) (l : List Row) → Listed (r ∷ l) → Listed l
  unfolding Listed list_names
  listed_rest (row_sym s) l f n h = f n (elem_later n (input s) (list_names l) h)
  listed_rest (row_const c) l f n h = f n h
  listed_rest (row_op k ns) l f n h = f n h

  one_more : (ts : List Tree) (t : Tree) → T (holds_all p ts) → T (holds p t) → T (holds_all p (ts ++ (t ∷ [])))
  unfolding holds_all
  one_more ts t h g = holds_append p ts (t ∷ []) h (and_both (holds p t) true g tt)

  rows_hold : (ts : List Tree) (l : List Row) → Listed l → T (holds_all p ts) → T (holds_all p (trees_from ts l))
  unfolding trees_from
  rows_hold ts [] f h = h
  rows_hold ts (r ∷ l) f h = rows_hold (ts ++ (tree_of_row ts r ∷ [])) l (listed_rest r l f) (one_more ts (tree_of_row ts r) h (row_holds ts r l f h))

  none_held : T (holds_all p [])
  unfolding holds_all
  none_held = tt

  table_holds : (t : Table) → Listed t.rows → T (holds_all p (trees t))
  unfolding trees
  table_holds t f = all_picked (trees_from [] t.rows) t.roots (rows_hold [] t.rows f none_held)

table_symbols : (t : Table) (n : Name) → T (elem n (all_symbols (trees t))) → T (elem n (list_names t.rows))
unfolding Listed
table_symbols t n h = holds_all_at (λ m. elem m (list_names t.rows)) (trees t) n (table_holds (λ m. elem m (list_names t.rows)) t (λ m k. k)) h

-- ---- with more input symbols, what was in scope still is

module _ (few many b : List Name) (more : (n : Name) → T (elem n few) → T (elem n many)) where
  one_known : (n : Name) (scope : List Name) → T (elem n scope || (elem n few && not (elem n b))) → T (elem n scope || (elem n many && not (elem n b)))
  one_known n scope h =
      elim (or_cases (elem n scope) (elem n few && not (elem n b)) h) [
        | inl t ↦ or_left (elem n scope) (elem n many && not (elem n b)) t
        | inr t ↦ or_right (elem n scope) (elem n many && not (elem n b)) (and_both (elem n many) (not (elem n b)) (more n (and_left (elem n few) (not (elem n b)) t)) (and_right (elem n few) (not (elem n b)) t))
      ]

  more_known : (scope l : List Name) → T (known few b scope l) → T (known many b scope l)
  unfolding known
  more_known scope [] h = tt
  more_known scope (n ∷ l) h =
      let x = elem n scope || (elem n few && not (elem n b)) in
      let y = elem n scope || (elem n many && not (elem n b)) in
      and_both y (known many b scope l) (one_known n scope (and_left x (known few b scope l) h)) (more_known scope l (and_right x (known few b scope l) h))

  mutual
    unfolding stmt_in_scope

    stmt_more : (s : Intermediate) (scope : List Name) → T (stmt_in_scope few b s scope) → T (stmt_in_scope many b s scope)
    stmt_more (Let n e) scope h = more_known scope (symbols e) h
    stmt_more (Match k key ns arms) scope h =
        and_both (known many b scope (symbols key)) (arms_in_scope many b arms scope) (more_known scope (symbols key) (and_left (known few b scope (symbols key)) (arms_in_scope few b arms scope) h))
        (arms_more arms scope (and_right (known few b scope (symbols key)) (arms_in_scope few b arms scope) h))

    stmts_more : (l : Intermediates) (scope : List Name) (vs : List Tree) → T (in_scope few b l scope vs) → T (in_scope many b l scope vs)
    stmts_more end scope vs h = more_known scope (all_symbols vs) h
    stmts_more (step s l) scope vs h =
        let x = stmt_in_scope few b s scope in
        let y = in_scope few b l (names s ++ scope) vs in
        and_both (stmt_in_scope many b s scope) (in_scope many b l (names s ++ scope) vs) (stmt_more s scope (and_left x y h)) (stmts_more l (names s ++ scope) vs (and_right x y h))

    arms_more : (arms : Arms) (scope : List Name) → T (arms_in_scope few b arms scope) → T (arms_in_scope many b arms scope)
    arms_more no_arm scope h = tt
    arms_more (arm s vs l) scope h =
        let x = in_scope few b s scope vs in
        let y = arms_in_scope few b l scope in
        and_both (in_scope many b s scope vs) (arms_in_scope many b l scope) (stmts_more s scope vs (and_left x y h)) (arms_more l scope (and_right x y h))

-- ---- extract's answers

pub scoped_references : (t : Table) (a : Answer) → T (well_scoped (trees t) a) → T (references_ok t.rows a)
unfolding well_scoped references_ok
scoped_references t a h =
    let b = bound_stmts a.inters in
    let x = in_scope (all_symbols (trees t)) b a.inters [] a.results in
    and_both (all_different b) (in_scope (list_names t.rows) b a.inters [] a.results) (and_left (all_different b) x h)
    (stmts_more (all_symbols (trees t)) (list_names t.rows) b (table_symbols t) a.inters [] a.results (and_right (all_different b) x h))

pub extract_references : (t : Table) (scoped : Bool) (a : Answer) → answer scoped (trees t) ≡ ok a → T (references_ok t.rows a)
extract_references t scoped a e = scoped_references t a ((table_names_and_values t).names_once_and_later scoped a e)

-- its rows pass 13 where its expressions, names and counts are those of an answer
pub extract_laid :
    (t : Table) (scoped : Bool) (a : Answer) → answer scoped (trees t) ≡ ok a → T (intermediates_ok a.inters) → T (trees_ok a.results)
    → T (rows_of_answer t.rows (answer_words (number_in t.rows) a))
extract_laid t scoped a e o v =
    rows_laid t.rows (answer_words (number_in t.rows) a) (record { answer = a; words = refl; parts = o; results = v; references = extract_references t scoped a e })
