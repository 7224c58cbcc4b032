-- Reading back what was written: the answer that an answer's rows are (AnswerRows). Assumes nothing.
use Prim.Native.Nat.{ℕ, suc, ◌+◌, ◌-◌, ◌/◌, ◌%◌, ◌≤◌, ◌<◌}
use native.Mathlib.Omega.{arith}
use mathlib.Core.Path.{◌≡◌, refl, sym, ◌∙◌, ap, ap₂}
use mathlib.Core.Bool.{Bool, true, false, ◌&&◌}
use mathlib.Core.List.{List, [], ◌∷◌, ◌++◌}
use borrow.Author.Tests.{eq-eqb, ne_eqb, le-leb, lt-ltb, le-ltb}
use lib.ListN.{length}
use lib.Dec.{T, eqb, leb, ltb, leb→le, ltb→lt}
use Rattle.spec_tree.specs.Tree.{Name, input, xname, mname, Tree, Sym, Const, Op}
use Rattle.spec_tree.specs.Tokens.{word, name_code, kind_of, below_of, name_by}
use Rattle.spec_tree.proofs.Logic.{and_left, and_right}
use Rattle.spec_tree.proofs.TokenCode.{known_name}
use Rattle.spec_cse.specs.Answer.{Intermediate, Intermediates, Arms, Answer, Let, Match, end, step, no_arm, arm}
use Rattle.spec_cse.specs.Read.{arm_count}
use Rattle.spec_cse.specs.AnswerRows.{let_row, match_row, name_row, arm_row, value_row, result_row, step_count, intermediates_words, each_words, answer_words, Span, Spans, span, no_span, spans, read_spans, row_of_span, first_tree, tree_of_span, tree_below, trees_below, names_of_spans, intermediate_of_span, intermediates_of_spans, arms_of_spans, answer_of, let_name, match_names}
use Rattle.laws.proofs.answer.SpanLaws.{join, tree_span, name_back, span_tree}
use Rattle.laws.specs.answer.Fitting.{an_operation_kind, fitting, fitting_each, all_fitting, a_switch_kind, stmt_fitting, stmts_fitting, arms_fitting}
use Rattle.laws.proofs.answer.RowSpans.{name_spans, each_spans, stmt_span, stmt_spans, arm_spans, read_stmts, read_each}

-- ---- one span in front, taken or passed over

taken : {A : Type 0} (b : Bool) (x y : A) → b ≡ true → ◌≡◌ {A = A} (elim b [ true ↦ x | false ↦ y ]) x
taken true x y e = refl
taken false x y e = absurd (let z : ◌≡◌ {A = ℕ} 0 1 = cc in omega arith)

passed : {A : Type 0} (b : Bool) (x y : A) → b ≡ false → ◌≡◌ {A = A} (elim b [ true ↦ x | false ↦ y ]) y
passed true x y e = absurd (let z : ◌≡◌ {A = ℕ} 0 1 = cc in omega arith)
passed false x y e = refl

abbrev span_kind : Span → ℕ
span_kind p = kind_of (row_of_span p)

a_statement : (k : ℕ) → 29 ≤ k → k < 33 → (leb 29 k && ltb k 33) ≡ true
a_statement k low high = rw (le-leb 29 k low, lt-ltb k 33 high)

after_statements : (k : ℕ) → 33 ≤ k → (leb 29 k && ltb k 33) ≡ false
after_statements k h = let g : 29 ≤ k = omega arith in rw (le-leb 29 k g, le-ltb k 33 h)

module _ (name_at : ℕ → List ℕ) where
  names_pass : (p : Span) (l : Spans) → (span_kind p ≡ 33 → ⊥) → names_of_spans name_at (spans p l) ≡ names_of_spans name_at l
  unfolding names_of_spans
  names_pass p l n = passed (eqb (span_kind p) name_row) _ _ (ne_eqb (span_kind p) 33 n)

  names_take : (p : Span) (l : Spans) → span_kind p ≡ 33 → names_of_spans name_at (spans p l) ≡ name_by name_at (below_of (row_of_span p) % 3) (below_of (row_of_span p) / 3) ∷ names_of_spans name_at l
  unfolding names_of_spans
  names_take p l n = taken (eqb (span_kind p) name_row) _ _ (eq-eqb (span_kind p) 33 n)

  trees_pass : (row : ℕ) (p : Span) (l : Spans) → (span_kind p ≡ row → ⊥) → trees_below name_at row (spans p l) ≡ trees_below name_at row l
  unfolding trees_below
  trees_pass row p l n = passed (eqb (span_kind p) row) _ _ (ne_eqb (span_kind p) row n)

  trees_take : (row : ℕ) (p : Span) (l : Spans) → span_kind p ≡ row → trees_below name_at row (spans p l) ≡ tree_below name_at p ∷ trees_below name_at row l
  unfolding trees_below
  trees_take row p l n = taken (eqb (span_kind p) row) _ _ (eq-eqb (span_kind p) row n)

  stmts_pass : (p : Span) (l : Spans) → (leb 29 (span_kind p) && ltb (span_kind p) 33) ≡ false → intermediates_of_spans name_at (spans p l) ≡ intermediates_of_spans name_at l
  unfolding intermediates_of_spans
  stmts_pass p l n = passed (leb 29 (span_kind p) && ltb (span_kind p) 33) _ _ n

  stmts_take : (p : Span) (l : Spans) → (leb 29 (span_kind p) && ltb (span_kind p) 33) ≡ true → intermediates_of_spans name_at (spans p l) ≡ step (intermediate_of_span name_at p) (intermediates_of_spans name_at l)
  unfolding intermediates_of_spans
  stmts_take p l n = taken (leb 29 (span_kind p) && ltb (span_kind p) 33) _ _ n

  arms_pass : (p : Span) (l : Spans) → (span_kind p ≡ 34 → ⊥) → arms_of_spans name_at (spans p l) ≡ arms_of_spans name_at l
  unfolding arms_of_spans row_of_span
  arms_pass (span w below) l n = passed (eqb (kind_of w) arm_row) _ _ (ne_eqb (kind_of w) 34 n)

  arms_take : (w : ℕ) (below l : Spans) → kind_of w ≡ 34 → arms_of_spans name_at (spans (span w below) l) ≡ arm (intermediates_of_spans name_at below) (trees_below name_at value_row below) (arms_of_spans name_at l)
  unfolding arms_of_spans
  arms_take w below l n = taken (eqb (kind_of w) arm_row) _ _ (eq-eqb (kind_of w) 34 n)

  let_read : (w : ℕ) (l : Spans) → kind_of w ≡ 29 → intermediate_of_span name_at (span w l) ≡ Let (name_by name_at (below_of w % 3) (below_of w / 3)) (first_tree name_at l)
  unfolding intermediate_of_span
  let_read w l n = taken (eqb (kind_of w) let_row) _ _ (eq-eqb (kind_of w) 29 n)

  match_read : (w : ℕ) (l : Spans) → (kind_of w ≡ 29 → ⊥) → intermediate_of_span name_at (span w l) ≡ Match (kind_of w - 4) (first_tree name_at l) (names_of_spans name_at l) (arms_of_spans name_at l)
  unfolding intermediate_of_span
  match_read w l n = passed (eqb (kind_of w) let_row) _ _ (ne_eqb (kind_of w) 29 n)

  nothing_taken : (names_of_spans name_at no_span ≡ []) × (arms_of_spans name_at no_span ≡ no_arm) × (intermediates_of_spans name_at no_span ≡ end) × ((row : ℕ) → trees_below name_at row no_span ≡ [])
  unfolding names_of_spans arms_of_spans trees_below
  nothing_taken = (refl, refl, refl, λ row. refl)

  first_is : (p : Span) (l : Spans) → first_tree name_at (spans p l) ≡ tree_of_span name_at p
  unfolding first_tree
  first_is p l = refl

  below_is : (w : ℕ) (p : Span) (l : Spans) → tree_below name_at (span w (spans p l)) ≡ tree_of_span name_at p
  unfolding tree_below
  below_is w p l = refl

-- ---- the kinds of the rows in front

pub tree_row : (number : List ℕ → ℕ) (known : List ℕ → Bool) (t : Tree) → T (fitting known t) → span_kind (tree_span number t) < 29
unfolding fitting tree_span row_of_span
tree_row number known (Sym n) h = omega arith
tree_row number known (Const c) h = omega arith
tree_row number known (Op k f) h =
    let a = and_left (an_operation_kind k) (fitting_each known f) h in
    let high = ltb→lt k 29 (and_right (leb 2 k) (ltb k 29) a) in
    omega arith

pub stmt_row : (number : List ℕ → ℕ) (known : List ℕ → Bool) (s : Intermediate) → T (stmt_fitting known s) → (29 ≤ span_kind (stmt_span number s)) × (span_kind (stmt_span number s) < 33)
unfolding stmt_fitting stmt_span row_of_span
stmt_row number known (Let n e) h = (omega arith, omega arith)
stmt_row number known (Match k key ns arms) h =
    let a = and_left (a_switch_kind k) (fitting known key && (match_names ns && arms_fitting known arms)) h in
    let low = leb→le 26 k (and_left (leb 26 k) (ltb k 29) a) in
    let high = ltb→lt k 29 (and_right (leb 26 k) (ltb k 29) a) in
    (omega arith, omega arith)

-- ---- back to an answer

module _ (number : List ℕ → ℕ) (name_at : ℕ → List ℕ) (known : List ℕ → Bool) (back : (s : List ℕ) → T (known s) → name_at (number s) ≡ s) where
  made_known : (n : Name) (l : List Name) → T (match_names (n ∷ l)) → T (known_name known n) × T (match_names l)
  unfolding match_names known_name
  made_known (input s) l h = absurd h
  made_known (xname n) l h = absurd h
  made_known (mname n) l h = (tt, h)

  let_known : (n : Name) → T (let_name n) → T (known_name known n)
  unfolding let_name known_name
  let_known (input s) h = absurd h
  let_known (xname n) h = tt
  let_known (mname n) h = absurd h

  names_back : (ns : List Name) (r : Spans) → T (match_names ns) → names_of_spans name_at r ≡ [] → names_of_spans name_at (join (name_spans number ns) r) ≡ ns
  unfolding name_spans join row_of_span
  names_back [] r h e = e
  names_back (n ∷ l) r h e =
      let w = word name_row (name_code number n) in
      let k : kind_of w ≡ 33 = omega arith in
      let b : below_of w ≡ name_code number n = omega arith in
      let g = made_known n l h in
      names_take name_at (span w no_span) (join (name_spans number l) r) k ∙ rw b (ap₂ ◌∷◌ (name_back number name_at known back n g.0) (names_back l r g.1 e))

  each_back : (row : ℕ) (vs : List Tree) → row < 64 → T (all_fitting known vs) → trees_below name_at row (each_spans number row vs) ≡ vs
  unfolding each_spans all_fitting row_of_span
  each_back row [] high h = (nothing_taken name_at).3 row
  each_back row (t ∷ l) high h =
      let w = word row 0 in
      let k : kind_of w ≡ row = omega arith in
      trees_take name_at row (span w (spans (tree_span number t) no_span)) (each_spans number row l) k
      ∙ ap₂ ◌∷◌ (below_is name_at w (tree_span number t) no_span ∙ span_tree number name_at known back t (and_left (fitting known t) (all_fitting known l) h))
      (each_back row l high (and_right (fitting known t) (all_fitting known l) h))

  no_stmts : (row : ℕ) (vs : List Tree) → 33 ≤ row → row < 64 → intermediates_of_spans name_at (each_spans number row vs) ≡ end
  unfolding each_spans row_of_span
  no_stmts row [] low high = (nothing_taken name_at).2
  no_stmts row (t ∷ l) low high =
      let k : 33 ≤ kind_of (word row 0) = omega arith in
      stmts_pass name_at (span (word row 0) (spans (tree_span number t) no_span)) (each_spans number row l) (after_statements (kind_of (word row 0)) k) ∙ no_stmts row l low high

  -- values and results stand after statements
  past_stmts : (row : ℕ) (l : Intermediates) (r : Spans) → 33 ≤ row → T (stmts_fitting known l) → trees_below name_at row (join (stmt_spans number l) r) ≡ trees_below name_at row r
  unfolding stmt_spans join stmts_fitting
  past_stmts row end r low h = refl
  past_stmts row (step s l) r low h =
      let k = stmt_row number known s (and_left (stmt_fitting known s) (stmts_fitting known l) h) in
      trees_pass name_at row (stmt_span number s) (join (stmt_spans number l) r) (λ e. omega (arith, k.1))
      ∙ past_stmts row l r low (and_right (stmt_fitting known s) (stmts_fitting known l) h)

  no_names : (arms : Arms) → names_of_spans name_at (arm_spans number arms) ≡ []
  unfolding arm_spans row_of_span
  no_names no_arm = (nothing_taken name_at).0
  no_names (arm s vs l) =
      let w = word arm_row (step_count s + length vs) in
      names_pass name_at (span w (join (stmt_spans number s) (each_spans number value_row vs))) (arm_spans number l) (λ e. omega arith) ∙ no_names l

  past_names : (ns : List Name) (r : Spans) → arms_of_spans name_at (join (name_spans number ns) r) ≡ arms_of_spans name_at r
  unfolding name_spans join row_of_span
  past_names [] r = refl
  past_names (n ∷ l) r = arms_pass name_at (span (word name_row (name_code number n)) no_span) (join (name_spans number l) r) (λ e. omega arith) ∙ past_names l r

  let_back : (n : Name) (e : Tree) → T (let_name n && fitting known e) → intermediate_of_span name_at (stmt_span number (Let n e)) ≡ Let n e
  unfolding stmt_span
  let_back n e h =
      let w = word let_row (name_code number n) in
      let k : kind_of w ≡ 29 = omega arith in
      let b : below_of w ≡ name_code number n = omega arith in
      let name : name_by name_at (below_of w % 3) (below_of w / 3) ≡ n =
      rw b (name_back number name_at known back n (let_known n (and_left (let_name n) (fitting known e) h))) in
      let tree = span_tree number name_at known back e (and_right (let_name n) (fitting known e) h) in
      let_read name_at w (spans (tree_span number e) no_span) k ∙ ap₂ Let name (first_is name_at (tree_span number e) no_span ∙ tree)

  match_back :
      (k : ℕ) (key : Tree) (ns : List Name) (arms : Arms) → T (a_switch_kind k) → T (fitting known key) → T (match_names ns) → arms_of_spans name_at (arm_spans number arms) ≡ arms
      → intermediate_of_span name_at (stmt_span number (Match k key ns arms)) ≡ Match k key ns arms
  unfolding stmt_span
  match_back k key ns arms a t m e =
      let low = leb→le 26 k (and_left (leb 26 k) (ltb k 29) a) in
      let high = ltb→lt k 29 (and_right (leb 26 k) (ltb k 29) a) in
      let w = word (match_row k) (suc (length ns + arm_count arms)) in
      let below = join (name_spans number ns) (arm_spans number arms) in
      let p = tree_span number key in
      let z = tree_row number known key t in
      let kind : kind_of w - 4 ≡ k = omega arith in
      let names : names_of_spans name_at (spans p below) ≡ ns =
      names_pass name_at p below (λ q. omega arith) ∙ names_back ns (arm_spans number arms) m (no_names arms) in
      let sides : arms_of_spans name_at (spans p below) ≡ arms =
      arms_pass name_at p below (λ q. omega arith) ∙ (past_names ns (arm_spans number arms) ∙ e) in
      let tree : first_tree name_at (spans p below) ≡ key = first_is name_at p below ∙ span_tree number name_at known back key t in
      match_read name_at w (spans p below) (λ q. omega arith) ∙ rw (kind, tree, names, sides)

  arm_back :
      (s : Intermediates) (vs : List Tree) (l : Arms) → T (stmts_fitting known s) → T (all_fitting known vs)
      → intermediates_of_spans name_at (join (stmt_spans number s) (each_spans number value_row vs)) ≡ s → arms_of_spans name_at (arm_spans number l) ≡ l
      → arms_of_spans name_at (arm_spans number (arm s vs l)) ≡ arm s vs l
  unfolding arm_spans
  arm_back s vs l h g e d =
      let w = word arm_row (step_count s + length vs) in
      let below = join (stmt_spans number s) (each_spans number value_row vs) in
      let values : trees_below name_at value_row below ≡ vs =
      past_stmts value_row s (each_spans number value_row vs) (omega arith) h ∙ each_back value_row vs (omega arith) g in
      arms_take name_at w below (arm_spans number l) (omega arith) ∙ rw (e, values, d)

  mutual
    unfolding stmt_fitting stmt_span join

    pub stmt_back : (s : Intermediate) → T (stmt_fitting known s) → intermediate_of_span name_at (stmt_span number s) ≡ s
    stmt_back (Let n e) h = let_back n e h
    stmt_back (Match k key ns arms) h =
        let a = and_left (a_switch_kind k) (fitting known key && (match_names ns && arms_fitting known arms)) h in
        let g = and_right (a_switch_kind k) (fitting known key && (match_names ns && arms_fitting known arms)) h in
        let r = and_right (fitting known key) (match_names ns && arms_fitting known arms) g in
        match_back k key ns arms a (and_left (fitting known key) (match_names ns && arms_fitting known arms) g) (and_left (match_names ns) (arms_fitting known arms) r)
        (arms_back arms (and_right (match_names ns) (arms_fitting known arms) r))

    pub stmts_back : (l : Intermediates) → T (stmts_fitting known l) → (r : Spans) → intermediates_of_spans name_at r ≡ end → intermediates_of_spans name_at (join (stmt_spans number l) r) ≡ l
    stmts_back end h r e = e
    stmts_back (step s l) h r e =
        let g = and_left (stmt_fitting known s) (stmts_fitting known l) h in
        let k = stmt_row number known s g in
        stmts_take name_at (stmt_span number s) (join (stmt_spans number l) r) (a_statement (span_kind (stmt_span number s)) k.0 k.1)
        ∙ ap₂ step (stmt_back s g) (stmts_back l (and_right (stmt_fitting known s) (stmts_fitting known l) h) r e)

    pub arms_back : (arms : Arms) → T (arms_fitting known arms) → arms_of_spans name_at (arm_spans number arms) ≡ arms
    arms_back no_arm h = (nothing_taken name_at).1
    arms_back (arm s vs l) h =
        let g = and_left (stmts_fitting known s && all_fitting known vs) (arms_fitting known l) h in
        let a = and_left (stmts_fitting known s) (all_fitting known vs) g in
        arm_back s vs l a (and_right (stmts_fitting known s) (all_fitting known vs) g)
        (stmts_back s a (each_spans number value_row vs) (no_stmts value_row vs (omega arith) (omega arith)))
        (arms_back l (and_right (stmts_fitting known s && all_fitting known vs) (arms_fitting known l) h))

  nothing_more : (l : Spans) → join l (read_spans []) ≡ l
  unfolding join read_spans
  nothing_more no_span = refl
  nothing_more (spans p l) = ap (spans p) (nothing_more l)

  append_nil : (l : List ℕ) → l ++ [] ≡ l
  append_nil [] = refl
  append_nil (w ∷ l) = ap (λ (r : List ℕ). w ∷ r) (append_nil l)

  results_read : (vs : List Tree) → T (all_fitting known vs) → read_spans (each_words number result_row vs) ≡ each_spans number result_row vs
  results_read vs h =
      ap read_spans (sym (append_nil (each_words number result_row vs)))
      ∙ (read_each number known result_row vs [] (omega arith) (omega arith) h ∙ nothing_more (each_spans number result_row vs))

  -- the answer that an answer's rows are is that answer
  pub answer_back : (a : Answer) → T (stmts_fitting known a.inters) → T (all_fitting known a.results) → answer_of name_at a.extracted (answer_words number a) ≡ a
  unfolding answer_of answer_words
  answer_back a h g =
      let rest = each_spans number result_row a.results in
      let all : read_spans (intermediates_words number a.inters ++ each_words number result_row a.results) ≡ join (stmt_spans number a.inters) rest =
      read_stmts number known a.inters h (each_words number result_row a.results) ∙ ap (join (stmt_spans number a.inters)) (results_read a.results g) in
      let i = stmts_back a.inters h rest (no_stmts result_row a.results (omega arith) (omega arith)) in
      let r : trees_below name_at result_row (join (stmt_spans number a.inters) rest) ≡ a.results =
      past_stmts result_row a.inters rest (omega arith) h ∙ each_back result_row a.results (omega arith) g in
      rw (all, i, r)
