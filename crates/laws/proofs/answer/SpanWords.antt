-- How many words the spans of an answer's parts are (Seen). Assumes nothing.
use Prim.Native.Nat.{ℕ, suc, ◌+◌, ◌≤◌, ◌<◌}
use native.Mathlib.Omega.{arith}
use mathlib.Core.Path.{◌≡◌, sym, ◌∙◌, ap, subst}
use mathlib.Core.Bool.{Bool, ◌&&◌}
use mathlib.Core.Option.{some}
use mathlib.Core.List.{List, [], ◌∷◌, ◌++◌, append_assoc}
use lib.ListN.{length, length-append}
use lib.Dec.{T, leb, ltb, leb→le, ltb→lt}
use Rattle.spec_tree.specs.Tree.{Name, Tree, Forest, Sym, Const, Op, nil, ◌◂◌, operands}
use Rattle.spec_tree.specs.Tokens.{word, constant_code, name_code, tokens, tokens_of, kind_of, below_of}
use Rattle.spec_tree.proofs.Logic.{and_left, and_right}
use Rattle.spec_cse.specs.Answer.{Intermediate, Intermediates, Arms, Let, Match, end, step, no_arm, arm}
use Rattle.spec_cse.specs.Read.{arm_count}
use Rattle.spec_cse.specs.AnswerRows.{let_row, match_row, name_row, arm_row, value_row, step_count, names_words, each_words, intermediate_words, intermediates_words, arms_words, stands_below, let_name, match_names}
use Rattle.laws.specs.answer.Fitting.{an_operation_kind, fitting, fitting_each, all_fitting, a_switch_kind, stmt_fitting, stmts_fitting, arms_fitting}
use Rattle.laws.specs.answer.Seen.{span_words}
use Rattle.laws.proofs.answer.SpanLaws.{below_leaf, below_many, below_name, below_let, below_each}

-- so many words that are so many spans, in front of others
abbrev pub Whole : List ℕ → ℕ → Type 0
Whole l n = (r : List ℕ) (k m : ℕ) → span_words r k ≡ some m → span_words (l ++ r) (n + k) ≡ some (length l + m)

whole_nil : Whole [] 0
whole_nil r k m e =
    let z : 0 + k ≡ k = omega arith in
    let y : 0 + m ≡ m = omega arith in
    rw (z, y) e

pub whole_append : (a b : List ℕ) (n i : ℕ) → Whole a n → Whole b i → Whole (a ++ b) (n + i)
whole_append a b n i f g r k m e =
    let z : n + i + k ≡ n + (i + k) = omega arith in
    let y : length a + (length b + m) ≡ length (a ++ b) + m = omega (arith, length-append a b) in
    rw (append_assoc a b r, z) (f (b ++ r) (i + k) (length b + m) (g r k m e) ∙ ap some y)

row_front : (w n i all : ℕ) (ws : List ℕ) → all ≡ suc n → span_words ws (i + stands_below w) ≡ some n → span_words (w ∷ ws) (suc i) ≡ some all
unfolding span_words
row_front w n i all ws z e = rw (e, z)

-- a row with what stands below it
pub whole_row : (w n : ℕ) (l : List ℕ) → stands_below w ≡ n → Whole l n → Whole (w ∷ l) 1
whole_row w n l s f r k m e =
    let z : k + stands_below w ≡ n + k = omega (arith, s) in
    let y : 1 + k ≡ suc k = omega arith in
    rw y (row_front w (length l + m) k (suc (length l) + m) (l ++ r) (omega arith) (rw z (f r k m e)))

pub whole_same : (l : List ℕ) (n i : ℕ) → n ≡ i → Whole l n → Whole l i
whole_same l n i e f r k m q = rw (sym e) (f r k m q)

module _ (number : List ℕ → ℕ) where
  pub names_whole : (ns : List Name) → Whole (names_words number ns) (length ns)
  unfolding names_words
  names_whole [] = whole_nil
  names_whole (n ∷ l) =
      let w = word name_row (name_code number n) in
      whole_same (w ∷ names_words number l) (1 + length l) (suc (length l)) (omega arith)
      (whole_append (w ∷ []) (names_words number l) 1 (length l) (whole_row w 0 [] (below_name w (omega arith)) whole_nil) (names_whole l))

  module _ (known : List ℕ → Bool) where
    mutual
      unfolding fitting tokens operands

      pub tree_whole : (t : Tree) → T (fitting known t) → Whole (tokens number t) 1
      tree_whole (Sym n) h = let w = word 0 (name_code number n) in whole_row w 0 [] (below_leaf w (omega arith)) whole_nil
      tree_whole (Const c) h = let w = word 1 (constant_code c) in whole_row w 0 [] (below_leaf w (omega arith)) whole_nil
      tree_whole (Op k f) h =
          let a = and_left (an_operation_kind k) (fitting_each known f) h in
          let low = leb→le 2 k (and_left (leb 2 k) (ltb k 29) a) in
          let high = ltb→lt k 29 (and_right (leb 2 k) (ltb k 29) a) in
          let n = length (operands f) in
          let w = word k n in
          let e : kind_of w ≡ k = omega arith in
          let b : below_of w ≡ n = omega arith in
          let s = below_many w (omega arith) (omega arith) (λ q. omega arith) (λ q. omega arith) in
          whole_row w n (tokens_of number f) (s ∙ b) (forest_whole f (and_right (an_operation_kind k) (fitting_each known f) h))

      forest_whole : (f : Forest) → T (fitting_each known f) → Whole (tokens_of number f) (length (operands f))
      forest_whole nil h = whole_nil
      forest_whole (t ◂ f) h =
          whole_same (tokens number t ++ tokens_of number f) (1 + length (operands f)) (suc (length (operands f))) (omega arith)
          (whole_append (tokens number t) (tokens_of number f) 1 (length (operands f)) (tree_whole t (and_left (fitting known t) (fitting_each known f) h)) (forest_whole f (and_right (fitting known t) (fitting_each known f) h)))

    pub each_row : (row : ℕ) (t : Tree) → 35 ≤ row → row < 64 → T (fitting known t) → Whole (word row 0 ∷ tokens number t) 1
    each_row row t low high h = let w = word row 0 in whole_row w 1 (tokens number t) (below_each w (omega arith)) (tree_whole t h)

    pub each_whole : (row : ℕ) (vs : List Tree) → 35 ≤ row → row < 64 → T (all_fitting known vs) → Whole (each_words number row vs) (length vs)
    unfolding each_words all_fitting
    each_whole row [] low high h = whole_nil
    each_whole row (t ∷ l) low high h =
        whole_same ((word row 0 ∷ tokens number t) ++ each_words number row l) (1 + length l) (suc (length l)) (omega arith)
        (whole_append (word row 0 ∷ tokens number t) (each_words number row l) 1 (length l) (each_row row t low high (and_left (fitting known t) (all_fitting known l) h))
        (each_whole row l low high (and_right (fitting known t) (all_fitting known l) h)))

    rest :
        (w : ℕ) (i v : List ℕ) (l : Arms) → (w ∷ (i ++ v)) ++ arms_words number l ≡ w ∷ (i ++ (v ++ arms_words number l)) → Whole ((w ∷ (i ++ v)) ++ arms_words number l) (1 + arm_count l)
        → Whole (w ∷ (i ++ (v ++ arms_words number l))) (suc (arm_count l))
    rest w i v l e f =
        let z : 1 + arm_count l ≡ suc (arm_count l) = omega arith in
        subst (λ (x : List ℕ). Whole x (suc (arm_count l))) e (whole_same ((w ∷ (i ++ v)) ++ arms_words number l) (1 + arm_count l) (suc (arm_count l)) z f)

    mutual
      unfolding stmt_fitting intermediate_words step_count arm_count

      pub stmt_whole : (s : Intermediate) → T (stmt_fitting known s) → Whole (intermediate_words number s) 1
      stmt_whole (Let n e) h =
          let w = word let_row (name_code number n) in
          whole_row w 1 (tokens number e) (below_let w (omega arith)) (tree_whole e (and_right (let_name n) (fitting known e) h))
      stmt_whole (Match k key ns arms) h =
          let a = and_left (a_switch_kind k) (fitting known key && (match_names ns && arms_fitting known arms)) h in
          let g = and_right (a_switch_kind k) (fitting known key && (match_names ns && arms_fitting known arms)) h in
          let r = and_right (fitting known key) (match_names ns && arms_fitting known arms) g in
          let low = leb→le 26 k (and_left (leb 26 k) (ltb k 29) a) in
          let high = ltb→lt k 29 (and_right (leb 26 k) (ltb k 29) a) in
          let n = suc (length ns + arm_count arms) in
          let w = word (match_row k) n in
          let e : kind_of w ≡ k + 4 = omega arith in
          let b : below_of w ≡ n = omega arith in
          let s = below_many w (omega arith) (omega arith) (λ q. omega arith) (λ q. omega arith) in
          let below = names_words number ns ++ arms_words number arms in
          whole_row w n (tokens number key ++ below) (s ∙ b)
          (whole_same (tokens number key ++ below) (1 + (length ns + arm_count arms)) n (omega arith)
          (whole_append (tokens number key) below 1 (length ns + arm_count arms) (tree_whole key (and_left (fitting known key) (match_names ns && arms_fitting known arms) g))
          (whole_append (names_words number ns) (arms_words number arms) (length ns) (arm_count arms) (names_whole ns) (arms_whole arms (and_right (match_names ns) (arms_fitting known arms) r)))))

      pub stmts_whole : (l : Intermediates) → T (stmts_fitting known l) → Whole (intermediates_words number l) (step_count l)
      stmts_whole end h = whole_nil
      stmts_whole (step s l) h =
          whole_same (intermediate_words number s ++ intermediates_words number l) (1 + step_count l) (suc (step_count l)) (omega arith)
          (whole_append (intermediate_words number s) (intermediates_words number l) 1 (step_count l) (stmt_whole s (and_left (stmt_fitting known s) (stmts_fitting known l) h))
          (stmts_whole l (and_right (stmt_fitting known s) (stmts_fitting known l) h)))

      pub arms_whole : (l : Arms) → T (arms_fitting known l) → Whole (arms_words number l) (arm_count l)
      arms_whole no_arm h = whole_nil
      arms_whole (arm s vs l) h =
          let g = and_left (stmts_fitting known s && all_fitting known vs) (arms_fitting known l) h in
          let n = step_count s + length vs in
          let w = word arm_row n in
          let b : below_of w ≡ n = omega arith in
          let k = below_many w (omega arith) (omega arith) (λ q. omega arith) (λ q. omega arith) in
          let i = intermediates_words number s in
          let v = each_words number value_row vs in
          let e : (w ∷ (i ++ v)) ++ arms_words number l ≡ w ∷ (i ++ (v ++ arms_words number l)) = ap (λ (x : List ℕ). w ∷ x) (append_assoc i v (arms_words number l)) in
          rest w i v l e
          (whole_append (w ∷ (i ++ v)) (arms_words number l) 1 (arm_count l)
          (whole_row w n (i ++ v) (k ∙ b)
          (whole_append i v (step_count s) (length vs) (stmts_whole s (and_left (stmts_fitting known s) (all_fitting known vs) g)) (each_whole value_row vs (omega arith) (omega arith) (and_right (stmts_fitting known s) (all_fitting known vs) g))))
          (arms_whole l (and_right (stmts_fitting known s && all_fitting known vs) (arms_fitting known l) h)))

    pub arm_whole : (s : Intermediates) (vs : List Tree) → T (stmts_fitting known s) → T (all_fitting known vs) → Whole (word arm_row (step_count s + length vs) ∷ (intermediates_words number s ++ each_words number value_row vs)) 1
    arm_whole s vs h g =
        let n = step_count s + length vs in
        let w = word arm_row n in
        let b : below_of w ≡ n = omega arith in
        let k = below_many w (omega arith) (omega arith) (λ q. omega arith) (λ q. omega arith) in
        whole_row w n (intermediates_words number s ++ each_words number value_row vs) (k ∙ b)
        (whole_append (intermediates_words number s) (each_words number value_row vs) (step_count s) (length vs) (stmts_whole s h) (each_whole value_row vs (omega arith) (omega arith) g))

  pub name_whole : (n : Name) → Whole (word name_row (name_code number n) ∷ []) 1
  name_whole n = let w = word name_row (name_code number n) in whole_row w 0 [] (below_name w (omega arith)) whole_nil
