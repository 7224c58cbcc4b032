-- The spans that the rows of statements, arms, values and results are (AnswerRows). Assumes nothing.
use Prim.Native.Nat.{ℕ, suc, ◌+◌, ◌≤◌, ◌<◌}
use native.Mathlib.Omega.{arith}
use mathlib.Core.Path.{◌≡◌, refl, sym, ◌∙◌, ap}
use mathlib.Core.Bool.{Bool, ◌&&◌}
use mathlib.Core.List.{List, [], ◌∷◌, ◌++◌, append_assoc}
use lib.ListN.{length}
use lib.Dec.{T, leb, ltb, leb→le, ltb→lt}
use Rattle.spec_tree.specs.Tree.{Name, Tree}
use Rattle.spec_tree.specs.Tokens.{word, name_code, tokens, kind_of, below_of}
use Rattle.spec_tree.proofs.Logic.{and_left, and_right}
use Rattle.spec_cse.specs.Answer.{Intermediate, Intermediates, Arms, Let, Match, end, step, no_arm, arm}
use Rattle.spec_cse.specs.Read.{arm_count}
use Rattle.spec_cse.specs.AnswerRows.{let_row, match_row, name_row, arm_row, value_row, step_count, names_words, each_words, intermediate_words, intermediates_words, arms_words, Span, Spans, span, no_span, spans, read_spans, let_name, match_names}
use Rattle.laws.specs.answer.Fitting.{fitting, all_fitting, a_switch_kind, stmt_fitting, stmts_fitting, arms_fitting}
use Rattle.laws.proofs.answer.SpanLaws.{join, span_count, join_assoc, count_join, read_row, below_many, below_name, below_let, below_each, tree_span, read_tree_span}

-- ---- their spans

module _ (number : List ℕ → ℕ) where
  unfoldable pub name_spans : List Name → Spans
  unfolding name_code
  name_spans [] = no_span
  name_spans (n ∷ l) = spans (span (word name_row (name_code number n)) no_span) (name_spans l)

  unfoldable pub each_spans : ℕ → List Tree → Spans
  unfolding tree_span
  each_spans row [] = no_span
  each_spans row (t ∷ l) = spans (span (word row 0) (spans (tree_span number t) no_span)) (each_spans row l)

  unfoldable mutual
    unfolding tree_span name_code name_spans each_spans join step_count arm_count

    pub stmt_span : Intermediate → Span
    stmt_span (Let n e) = span (word let_row (name_code number n)) (spans (tree_span number e) no_span)
    stmt_span (Match k key ns arms) =
        span (word (match_row k) (suc (length ns + arm_count arms))) (spans (tree_span number key) (join (name_spans ns) (arm_spans arms)))

    pub stmt_spans : Intermediates → Spans
    stmt_spans end = no_span
    stmt_spans (step s l) = spans (stmt_span s) (stmt_spans l)

    pub arm_spans : Arms → Spans
    arm_spans no_arm = no_span
    arm_spans (arm s vs l) = spans (span (word arm_row (step_count s + length vs)) (join (stmt_spans s) (each_spans value_row vs))) (arm_spans l)

  names_counted : (ns : List Name) → span_count (name_spans ns) ≡ length ns
  unfolding span_count name_spans
  names_counted [] = refl
  names_counted (n ∷ l) = ap suc (names_counted l)

  each_counted : (row : ℕ) (vs : List Tree) → span_count (each_spans row vs) ≡ length vs
  unfolding span_count each_spans
  each_counted row [] = refl
  each_counted row (t ∷ l) = ap suc (each_counted row l)

  stmts_counted : (l : Intermediates) → span_count (stmt_spans l) ≡ step_count l
  unfolding span_count stmt_spans step_count
  stmts_counted end = refl
  stmts_counted (step s l) = ap suc (stmts_counted l)

  arms_counted : (l : Arms) → span_count (arm_spans l) ≡ arm_count l
  unfolding span_count arm_spans arm_count
  arms_counted no_arm = refl
  arms_counted (arm s vs l) = ap suc (arms_counted l)

  below_match : (key : Tree) (ns : List Name) (arms : Arms) → span_count (spans (tree_span number key) (join (name_spans ns) (arm_spans arms))) ≡ suc (length ns + arm_count arms)
  unfolding span_count
  below_match key ns arms = omega (arith, count_join (name_spans ns) (arm_spans arms), names_counted ns, arms_counted arms)

  below_arm : (s : Intermediates) (vs : List Tree) → span_count (join (stmt_spans s) (each_spans value_row vs)) ≡ step_count s + length vs
  below_arm s vs = omega (arith, count_join (stmt_spans s) (each_spans value_row vs), stmts_counted s, each_counted value_row vs)

  -- ---- read

  pub read_names : (ns : List Name) (more : List ℕ) → read_spans (names_words number ns ++ more) ≡ join (name_spans ns) (read_spans more)
  unfolding names_words name_spans join span_count
  read_names [] more = refl
  read_names (n ∷ l) more =
      let w = word name_row (name_code number n) in
      read_row w 0 (names_words number l ++ more) no_span (read_spans (names_words number l ++ more)) (below_name w (omega arith)) refl refl
      ∙ ap (spans (span w no_span)) (read_names l more)

  module _ (known : List ℕ → Bool) where
    pub read_each : (row : ℕ) (vs : List Tree) (more : List ℕ) → 35 ≤ row → row < 64 → T (all_fitting known vs) → read_spans (each_words number row vs ++ more) ≡ join (each_spans row vs) (read_spans more)
    unfolding each_words each_spans join span_count all_fitting
    read_each row [] more low high h = refl
    read_each row (t ∷ l) more low high h =
        let w = word row 0 in
        let b = below_each w (omega arith) in
        let rest = each_words number row l ++ more in
        let e : read_spans (tokens number t ++ rest) ≡ join (spans (tree_span number t) no_span) (read_spans rest) =
        read_tree_span number known t (and_left (fitting known t) (all_fitting known l) h) rest in
        rw (append_assoc (tokens number t) (each_words number row l) more)
        (read_row w 1 (tokens number t ++ rest) (spans (tree_span number t) no_span) (read_spans rest) b refl e
        ∙ ap (spans (span w (spans (tree_span number t) no_span))) (read_each row l more low high (and_right (fitting known t) (all_fitting known l) h)))

    mutual
      unfolding stmt_fitting intermediate_words stmt_span join span_count

      pub read_stmt : (s : Intermediate) → T (stmt_fitting known s) → (more : List ℕ) → read_spans (intermediate_words number s ++ more) ≡ spans (stmt_span s) (read_spans more)
      read_stmt (Let n e) h more =
          let w = word let_row (name_code number n) in
          let b = below_let w (omega arith) in
          read_row w 1 (tokens number e ++ more) (spans (tree_span number e) no_span) (read_spans more) b refl
          (read_tree_span number known e (and_right (let_name n) (fitting known e) h) more)
      read_stmt (Match k key ns arms) h more =
          let a = and_left (a_switch_kind k) (fitting known key && (match_names ns && arms_fitting known arms)) h in
          let g = and_right (a_switch_kind k) (fitting known key && (match_names ns && arms_fitting known arms)) h in
          let r = and_right (fitting known key) (match_names ns && arms_fitting known arms) g in
          let low = leb→le 26 k (and_left (leb 26 k) (ltb k 29) a) in
          let high = ltb→lt k 29 (and_right (leb 26 k) (ltb k 29) a) in
          let n = suc (length ns + arm_count arms) in
          let w = word (match_row k) n in
          let e : kind_of w ≡ k + 4 = omega arith in
          let b : below_of w ≡ n = omega arith in
          let s = below_many w (omega arith) (omega arith) (λ q. omega arith) (λ q. omega arith) in
          let below = names_words number ns ++ arms_words number arms in
          rw (append_assoc (tokens number key) below more, append_assoc (names_words number ns) (arms_words number arms) more)
          (read_row w n (tokens number key ++ (names_words number ns ++ (arms_words number arms ++ more)))
          (spans (tree_span number key) (join (name_spans ns) (arm_spans arms))) (read_spans more) (s ∙ b) (below_match key ns arms)
          (read_tree_span number known key (and_left (fitting known key) (match_names ns && arms_fitting known arms) g) (names_words number ns ++ (arms_words number arms ++ more))
          ∙ ap (spans (tree_span number key))
          (read_names ns (arms_words number arms ++ more) ∙ (ap (join (name_spans ns)) (read_arms arms (and_right (match_names ns) (arms_fitting known arms) r) more)
          ∙ sym (join_assoc (name_spans ns) (arm_spans arms) (read_spans more))))))

      pub read_stmts : (l : Intermediates) → T (stmts_fitting known l) → (more : List ℕ) → read_spans (intermediates_words number l ++ more) ≡ join (stmt_spans l) (read_spans more)
      read_stmts end h more = refl
      read_stmts (step s l) h more =
          rw (append_assoc (intermediate_words number s) (intermediates_words number l) more)
          (read_stmt s (and_left (stmt_fitting known s) (stmts_fitting known l) h) (intermediates_words number l ++ more)
          ∙ ap (spans (stmt_span s)) (read_stmts l (and_right (stmt_fitting known s) (stmts_fitting known l) h) more))

      pub read_arms : (l : Arms) → T (arms_fitting known l) → (more : List ℕ) → read_spans (arms_words number l ++ more) ≡ join (arm_spans l) (read_spans more)
      read_arms no_arm h more = refl
      read_arms (arm s vs l) h more =
          let g = and_left (stmts_fitting known s && all_fitting known vs) (arms_fitting known l) h in
          let n = step_count s + length vs in
          let w = word arm_row n in
          let b : below_of w ≡ n = omega arith in
          let k = below_many w (omega arith) (omega arith) (λ q. omega arith) (λ q. omega arith) in
          let rest = arms_words number l ++ more in
          rw (append_assoc (intermediates_words number s) (each_words number value_row vs ++ arms_words number l) more, append_assoc (each_words number value_row vs) (arms_words number l) more)
          (read_row w n (intermediates_words number s ++ (each_words number value_row vs ++ rest)) (join (stmt_spans s) (each_spans value_row vs)) (read_spans rest)
          (k ∙ b) (below_arm s vs)
          (read_stmts s (and_left (stmts_fitting known s) (all_fitting known vs) g) (each_words number value_row vs ++ rest)
          ∙ (ap (join (stmt_spans s)) (read_each value_row vs rest (omega arith) (omega arith) (and_right (stmts_fitting known s) (all_fitting known vs) g))
          ∙ sym (join_assoc (stmt_spans s) (each_spans value_row vs) (read_spans rest))))
          ∙ ap (spans (span w (join (stmt_spans s) (each_spans value_row vs)))) (read_arms l (and_right (stmts_fitting known s && all_fitting known vs) (arms_fitting known l) h) more))
