-- Every answer that extract gives passes 13, in both forms (01, "Turned down": Print). Assumes nothing.
use Prim.Native.Nat.{ℕ, zero, suc}
use mathlib.Core.Path.{◌≡◌, sym, subst}
use mathlib.Core.Bool.{Bool, ◌&&◌}
use mathlib.Core.List.{List}
use lib.ListN.{length}
use lib.Dec.{T, eqb, leb}
use Rattle.spec_tree.specs.Outcome.{ok}
use Rattle.spec_tree.specs.Tree.{Tree}
use Rattle.spec_tree.specs.Kinds.{is_switch, arity_ok}
use Rattle.spec_tree.specs.Rows.{Table, trees}
use Rattle.spec_tree.specs.Passes.{passes, tree_ok, trees_ok}
use Rattle.spec_tree.specs.Tokens.{number_in}
use Rattle.spec_tree.proofs.Logic.{and_left, and_right, and_both}
use Rattle.spec_cse.specs.Answer.{Intermediate, Intermediates, Arms, Answer, Let, Match, end, step, no_arm, arm}
use Rattle.spec_cse.specs.Read.{arm_count}
use Rattle.spec_cse.specs.Scope.{answer}
use Rattle.spec_cse.specs.Demand.{well_scoped}
use Rattle.spec_cse.specs.AnswerRows.{answer_words, let_name, match_names, intermediate_ok, intermediates_ok, arms_ok, references_ok, rows_of_answer, no_deeper, answer_laid_out}
use Rattle.laws.proofs.cse.PassesLaws.{passes_unmade}
use Rattle.laws.proofs.cse.ScopeNames.{answer_well_scoped}
use Rattle.laws.proofs.cse.Widths.{even_stmt, even_stmts, even_arms, answer_even}
use Rattle.laws.specs.answer.Fitting.{all_fitting, stmts_fitting, numbered_in}
use Rattle.laws.proofs.answer.ListNames.{answer_fits}
use Rattle.laws.proofs.answer.ExtractRefs.{extract_references, extract_laid}
use Rattle.guarantee.proofs.passing.Trees.{Fits, tree_same, fit_trees, passes_fit}
use Rattle.guarantee.proofs.passing.Fusing.{OkStmt, OkStmts, OkArms, answer_ok}
use Rattle.guarantee.proofs.passing.Depth.{rows_no_deeper}

fit_tree : (t : Tree) → Fits t → T (tree_ok t)
fit_tree t h = subst T (sym (tree_same t)) h.0

-- with as many values in each arm as the match has names
mutual
  unfolding even_stmt intermediate_ok

  whole_stmt : (s : Intermediate) (n : ℕ) → OkStmt s n → T (even_stmt s) → T (intermediate_ok s)
  whole_stmt (Let a e) n h w = and_both (let_name a) (tree_ok e) h.0 (fit_tree e h.1)
  whole_stmt (Match k key ns arms) n h w =
      let named = leb 1 (length ns) && match_names ns in
      let last = named && arms_ok (length ns) arms in
      and_both (is_switch k && arity_ok k (suc (arm_count arms))) (tree_ok key && last) (and_both (is_switch k) (arity_ok k (suc (arm_count arms))) h.0.0 h.0.1)
      (and_both (tree_ok key) last (fit_tree key h.1.0)
      (and_both named (arms_ok (length ns) arms) (and_both (leb 1 (length ns)) (match_names ns) h.1.1.0.0 h.1.1.0.1) (whole_arms (length ns) arms n h.1.1.1 w)))

  whole_stmts : (l : Intermediates) (n : ℕ) → OkStmts l n → T (even_stmts l) → T (intermediates_ok l)
  whole_stmts end n h w = tt
  whole_stmts (step s l) n h w =
      and_both (intermediate_ok s) (intermediates_ok l) (whole_stmt s n h.0 (and_left (even_stmt s) (even_stmts l) w)) (whole_stmts l n h.1 (and_right (even_stmt s) (even_stmts l) w))

  whole_arms : (c : ℕ) (l : Arms) (n : ℕ) → OkArms l n → T (even_arms c l) → T (arms_ok c l)
  whole_arms c no_arm n h w = tt
  whole_arms c (arm s vs l) zero h w = absurd h
  whole_arms c (arm s vs l) (suc n) h w =
      let q = and_right (eqb (length vs) c) (even_stmts s && even_arms c l) w in
      and_both (intermediates_ok s && (eqb (length vs) c && trees_ok vs)) (arms_ok c l)
      (and_both (intermediates_ok s) (eqb (length vs) c && trees_ok vs) (whole_stmts s n h.0.0 (and_left (even_stmts s) (even_arms c l) q))
      (and_both (eqb (length vs) c) (trees_ok vs) (and_left (eqb (length vs) c) (even_stmts s && even_arms c l) w) (fit_trees vs h.0.1)))
      (whole_arms c l (suc n) h.1 (and_right (even_stmts s) (even_arms c l) q))

-- kinds, operand counts, names and constants, of every statement and of the results
pub answer_parts : (scoped : Bool) (es : List Tree) → T (passes es) → (a : Answer) → answer scoped es ≡ ok a → T (intermediates_ok a.inters) × T (trees_ok a.results)
answer_parts scoped es h a e =
    let q = answer_ok scoped es (passes_fit es h) a e in
    (whole_stmts a.inters 8 q.0 (answer_even scoped es a e).0, fit_trees a.results q.1)

-- 13 on the answer of a list, its references among the list's symbols and its own names
pub answer_passes :
    (scoped : Bool) (es : List Tree) → T (passes es) → (a : Answer) → answer scoped es ≡ ok a → T (intermediates_ok a.inters && (trees_ok a.results && well_scoped es a))
answer_passes scoped es h a e =
    let q = answer_parts scoped es h a e in
    and_both (intermediates_ok a.inters) (trees_ok a.results && well_scoped es a) q.0
    (and_both (trees_ok a.results) (well_scoped es a) q.1 (answer_well_scoped scoped es (passes_unmade es h) a e))

-- the symbols of a table's answer are those of its rows, so that its words are read back
pub answer_parts_fit :
    (t : Table) → T (passes (trees t)) → (scoped : Bool) (a : Answer) → answer scoped (trees t) ≡ ok a
    → T (stmts_fitting (numbered_in t.rows) a.inters) × T (all_fitting (numbered_in t.rows) a.results)
answer_parts_fit t h scoped a e =
    let q = answer_parts scoped (trees t) h a e in
    answer_fits t.rows a q.0 q.1 (extract_references t scoped a e)

-- its rows stand no deeper than 13 lets them
pub answer_no_deeper :
    (t : Table) → T (passes (trees t)) → (scoped : Bool) (a : Answer) → answer scoped (trees t) ≡ ok a → T (no_deeper (answer_words (number_in t.rows) a))
answer_no_deeper t h scoped a e =
    let q = answer_ok scoped (trees t) (passes_fit (trees t) h) a e in
    let f = answer_parts_fit t h scoped a e in
    rows_no_deeper (number_in t.rows) (numbered_in t.rows) a f.0 f.1 q.0 q.1

-- 13 on the answer of a table, its references among the symbols of the rows, and on its words
pub table_answer_passes :
    (t : Table) → T (passes (trees t)) → (scoped : Bool) (a : Answer) → answer scoped (trees t) ≡ ok a
    → T (intermediates_ok a.inters && (trees_ok a.results && references_ok t.rows a)) × T (answer_laid_out t.rows (answer_words (number_in t.rows) a))
unfolding answer_laid_out
table_answer_passes t h scoped a e =
    let q = answer_parts scoped (trees t) h a e in
    let ws = answer_words (number_in t.rows) a in (
      and_both (intermediates_ok a.inters) (trees_ok a.results && references_ok t.rows a) q.0
          (and_both (trees_ok a.results) (references_ok t.rows a) q.1 (extract_references t scoped a e)),
      and_both (no_deeper ws) (rows_of_answer t.rows ws) (answer_no_deeper t h scoped a e) (extract_laid t scoped a e q.0 q.1),
    )
