-- Answer rows as words (01, "Turned down", refusals 12 and 13): an answer in its order, one word for each expression occurrence, each let, each match, each
-- match name, each arm or default, and each result or arm value, each before what stands below it. Assumes nothing.
use Rattle.std.specs.Prelude.{ℕ, zero, suc, ◌+◌, ◌-◌, ◌/◌, ◌%◌, max, Bool, ◌&&◌, ◌||◌, cond, pos, length, get_or, take, drop, eqb, leb, ltb}
use Rattle.std.proofs.Math.Bool.{true, false}
use mathlib.Core.List.{List, [], ◌∷◌, ◌++◌}
use Rattle.spec_tree.specs.Bytes.{eq_bytes}
use Rattle.spec_tree.specs.Kinds.{Branch, Select, SelectOr, is_switch, arity_ok}
use Rattle.spec_tree.specs.Tree.{Name, input, xname, mname, Tree, Const, forest}
use Rattle.spec_tree.specs.Rows.{Row, row_sym, row_const, row_op}
use Rattle.spec_tree.specs.Passes.{tree_ok, trees_ok}
use Rattle.spec_tree.specs.Tokens.{word, name_code, tokens, number_in, name_in, kind_of, below_of, name_by, tree_of_word}
use Rattle.spec_cse.specs.Answer.{Intermediate, Intermediates, Arms, Answer, Let, Match, end, step, no_arm, arm, block}
use Rattle.spec_cse.specs.Read.{arm_count}
use Rattle.spec_cse.specs.Demand.{bound_stmts, all_different, in_scope}

-- ---- the kinds of rows beside the kinds of expressions, which are below 29

abbrev pub let_row : ℕ
let_row = 29

-- a match's row by the kind of its switches: 30 for Branch, 31 for Select, 32 for a Select with a default
abbrev pub match_row : ℕ → ℕ
match_row k = k + 4

abbrev pub name_row : ℕ
name_row = 33

abbrev pub arm_row : ℕ
arm_row = 34

abbrev pub value_row : ℕ
value_row = 35

abbrev pub result_row : ℕ
result_row = 36

-- ---- from an answer to words

unfoldable pub step_count : Intermediates → ℕ
step_count end = 0
step_count (step s l) = suc (step_count l)

-- `number` gives the number of a symbol of the list
module _ (number : List ℕ → ℕ) where
  unfoldable pub names_words : List Name → List ℕ
  unfolding name_code
  names_words [] = []
  names_words (n ∷ l) = word name_row (name_code number n) ∷ names_words l

  -- results, or an arm's values
  unfoldable pub each_words : ℕ → List Tree → List ℕ
  unfolding tokens
  each_words row [] = []
  each_words row (t ∷ l) = word row 0 ∷ (tokens number t ++ each_words row l)

  -- below a match stand its key, its names and its arms; below an arm its statements and its values
  unfoldable mutual
    unfolding tokens name_code names_words each_words step_count arm_count

    pub intermediate_words : Intermediate → List ℕ
    intermediate_words (Let n e) = word let_row (name_code number n) ∷ tokens number e
    intermediate_words (Match k key ns arms) =
        word (match_row k) (suc (length ns + arm_count arms)) ∷ (tokens number key ++ (names_words ns ++ arms_words arms))

    pub intermediates_words : Intermediates → List ℕ
    intermediates_words end = []
    intermediates_words (step s l) = intermediate_words s ++ intermediates_words l

    pub arms_words : Arms → List ℕ
    arms_words no_arm = []
    arms_words (arm s vs l) =
        word arm_row (step_count s + length vs) ∷ (intermediates_words s ++ (each_words value_row vs ++ arms_words l))

  unfoldable pub answer_words : Answer → List ℕ
  unfolding intermediates_words each_words
  answer_words a = intermediates_words a.inters ++ each_words result_row a.results

-- ---- from words to an answer, whatever the words are

-- a row and what stands below it
mutual
  pub data Span : Type 0 where
    span : ℕ → Spans → Span

  pub data Spans : Type 0 where
    no_span : Spans
    spans : Span → Spans → Spans

unfoldable pub take_spans : ℕ → Spans → Spans
take_spans zero l = no_span
take_spans (suc n) no_span = no_span
take_spans (suc n) (spans p l) = spans p (take_spans n l)

unfoldable pub drop_spans : ℕ → Spans → Spans
drop_spans zero l = l
drop_spans (suc n) no_span = no_span
drop_spans (suc n) (spans p l) = drop_spans n l

-- how many of the spans after a row stand below it
unfoldable pub stands_below : ℕ → ℕ
stands_below w =
    cond (leb (kind_of w) 1 || eqb (kind_of w) name_row) 0
    (cond (eqb (kind_of w) let_row || leb value_row (kind_of w)) 1 (below_of w))

unfoldable pub read_spans : List ℕ → Spans
unfolding stands_below take_spans drop_spans
read_spans [] = no_span
read_spans (w ∷ ws) =
    let after = read_spans ws in
    spans (span w (take_spans (stands_below w) after)) (drop_spans (stands_below w) after)

unfoldable pub row_of_span : Span → ℕ
row_of_span (span w l) = w

-- `name-at` gives the name of a symbol of the list by its number
module _ (name_at : ℕ → List ℕ) where
  abbrev named : ℕ → Name
  named w = name_by name_at (below_of w % 3) (below_of w / 3)

  unfoldable mutual
    unfolding tree_of_word

    pub tree_of_span : Span → Tree
    tree_of_span (span w l) = tree_of_word name_at w (trees_of_spans l)

    pub trees_of_spans : Spans → List Tree
    trees_of_spans no_span = []
    trees_of_spans (spans p l) = tree_of_span p ∷ trees_of_spans l

  -- the tree of the first of some spans, and 0 where there is none: encoded again, that is another row than was read
  unfoldable pub first_tree : Spans → Tree
  unfolding tree_of_span
  first_tree no_span = Const (pos 0)
  first_tree (spans p l) = tree_of_span p

  unfoldable pub tree_below : Span → Tree
  unfolding first_tree
  tree_below (span w l) = first_tree l

  -- the trees below those spans whose rows are of a given kind
  unfoldable pub trees_below : ℕ → Spans → List Tree
  unfolding tree_below row_of_span
  trees_below row no_span = []
  trees_below row (spans p l) = elim (eqb (kind_of (row_of_span p)) row) [ true ↦ tree_below p ∷ trees_below row l | false ↦ trees_below row l ]

  unfoldable pub names_of_spans : Spans → List Name
  unfolding row_of_span name_by
  names_of_spans no_span = []
  names_of_spans (spans p l) = elim (eqb (kind_of (row_of_span p)) name_row) [ true ↦ named (row_of_span p) ∷ names_of_spans l | false ↦ names_of_spans l ]

  unfoldable mutual
    unfolding first_tree trees_below names_of_spans name_by row_of_span

    -- a let or a match
    pub intermediate_of_span : Span → Intermediate
    intermediate_of_span (span w l) =
        elim (eqb (kind_of w) let_row) [
          | true ↦ Let (named w) (first_tree l)
          | false ↦ Match (kind_of w - 4) (first_tree l) (names_of_spans l) (arms_of_spans l)
        ]

    -- the statements among some spans
    pub intermediates_of_spans : Spans → Intermediates
    intermediates_of_spans no_span = end
    intermediates_of_spans (spans p l) =
        elim (leb let_row (kind_of (row_of_span p)) && ltb (kind_of (row_of_span p)) name_row) [
          | true ↦ step (intermediate_of_span p) (intermediates_of_spans l)
          | false ↦ intermediates_of_spans l
        ]

    -- the arms among some spans
    pub arms_of_spans : Spans → Arms
    arms_of_spans no_span = no_arm
    arms_of_spans (spans p l) = arm_of_span p (arms_of_spans l)

    pub arm_of_span : Span → Arms → Arms
    arm_of_span (span w below) l =
        elim (eqb (kind_of w) arm_row) [ true ↦ arm (intermediates_of_spans below) (trees_below value_row below) l | false ↦ l ]

  -- an answer but for its extraction count, which no row holds
  unfoldable pub answer_of : ℕ → List ℕ → Answer
  unfolding read_spans intermediates_of_spans trees_below
  answer_of extracted ws =
      let all = read_spans ws in
      record { inters = intermediates_of_spans all; results = trees_below result_row all; extracted = extracted }

-- ---- 13: by kind, operand count, earlier reference, name or constant

unfoldable pub let_name : Name → Bool
let_name (input s) = false
let_name (xname n) = true
let_name (mname n) = false

unfoldable pub match_names : List Name → Bool
match_names [] = true
match_names (input s ∷ l) = false
match_names (xname n ∷ l) = false
match_names (mname n ∷ l) = match_names l

-- a match has the arms that its kind of switch may have, at least one name, and in each arm a value for each name
unfoldable mutual
  unfolding tree_ok trees_ok let_name match_names arity_ok arm_count

  pub intermediate_ok : Intermediate → Bool
  intermediate_ok (Let n e) = let_name n && tree_ok e
  intermediate_ok (Match k key ns arms) =
      (is_switch k && arity_ok k (suc (arm_count arms))) && (tree_ok key && ((leb 1 (length ns) && match_names ns) && arms_ok (length ns) arms))

  pub intermediates_ok : Intermediates → Bool
  intermediates_ok end = true
  intermediates_ok (step s l) = intermediate_ok s && intermediates_ok l

  pub arms_ok : ℕ → Arms → Bool
  arms_ok n no_arm = true
  arms_ok n (arm s vs l) = (intermediates_ok s && (eqb (length vs) n && trees_ok vs)) && arms_ok n l

-- the symbols of the list
unfoldable pub list_names : List Row → List Name
list_names [] = []
list_names (row_sym s ∷ l) = input s ∷ list_names l
list_names (row_const c ∷ l) = list_names l
list_names (row_op k ns ∷ l) = list_names l

-- earlier reference: each name is bound once, and used only later and in its scope
unfoldable pub references_ok : List Row → Answer → Bool
unfolding list_names all_different bound_stmts in_scope
references_ok rows a =
    let b = bound_stmts a.inters in
    all_different b && in_scope (list_names rows) b a.inters [] a.results

-- the words are the rows of an answer over the symbols of these node rows
unfoldable pub rows_of_answer : List Row → List ℕ → Bool
unfolding answer_of answer_words number_in name_in eq_bytes intermediates_ok trees_ok references_ok
rows_of_answer rows ws =
    let a = answer_of (name_in rows) 0 ws in
    eq_bytes (answer_words (number_in rows) a) ws && (intermediates_ok a.inters && (trees_ok a.results && references_ok rows a))

-- how deep rows stand below one another
unfoldable mutual
  pub span_depth : Span → ℕ
  span_depth (span w l) = suc (spans_depth l)

  pub spans_depth : Spans → ℕ
  spans_depth no_span = 0
  spans_depth (spans p l) = max (span_depth p) (spans_depth l)

-- How deep extract lays any: no tree of an answer has more nodes than a list may have, 1,024, and so stands no deeper than that; above it stand the row that it
-- is below, and for each of at most 8 arms around it the arm's row and its match's.
abbrev pub deepest : ℕ
deepest = 1041

unfoldable pub no_deeper : List ℕ → Bool
unfolding read_spans spans_depth
no_deeper ws = leb (spans_depth (read_spans ws)) deepest

-- rows that extract could lay out
unfoldable pub answer_laid_out : List Row → List ℕ → Bool
unfolding no_deeper rows_of_answer
answer_laid_out rows ws = no_deeper ws && rows_of_answer rows ws
