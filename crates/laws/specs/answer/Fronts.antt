-- What stands in front of some words, by the part of an answer that it is, and what is left after it (01, "Turned down", refusal 13). Assumes nothing.
use Rattle.std.specs.Prelude.{ℕ, suc, ◌+◌, ◌-◌, ◌≤◌, ◌%◌, ◌≡◌, Bool, true, not, ◌&&◌, List, [], ◌∷◌, ◌++◌, length, drop, T, leb, ltb, eqb}
use Rattle.spec_tree.specs.Kinds.{is_switch, arity_ok}
use Rattle.spec_tree.specs.Tree.{Name, Tree}
use Rattle.spec_tree.specs.Rows.{Row}
use Rattle.spec_tree.specs.Passes.{tree_ok, trees_ok}
use Rattle.spec_tree.specs.Tokens.{word, tokens, number_in, kind_of, below_of}
use Rattle.spec_cse.specs.Answer.{Intermediate, Intermediates, Arms, Answer}
use Rattle.spec_cse.specs.Read.{arm_count}
use Rattle.spec_cse.specs.AnswerRows.{match_row, name_row, result_row, step_count, names_words, each_words, intermediate_words, intermediates_words, arms_words, answer_words, match_names, intermediate_ok, intermediates_ok, arms_ok}
use Rattle.laws.specs.answer.Fitting.{fitting, all_fitting, stmt_fitting, stmts_fitting, arms_fitting, numbered_in}

-- ---- rows by their kind

-- a let or a match
abbrev pub statement_row : ℕ → Bool
statement_row w = leb 29 (kind_of w) && ltb (kind_of w) 33

-- a match name's row, with a name that answers make for matches
abbrev pub match_name_row : ℕ → Bool
match_name_row w = eqb (kind_of w) name_row && eqb (below_of w % 3) 2

unfoldable pub no_statement : List ℕ → Bool
no_statement [] = true
no_statement (w ∷ l) = not (statement_row w)

unfoldable pub no_match_name : List ℕ → Bool
no_match_name [] = true
no_match_name (w ∷ l) = not (match_name_row w)

-- ---- parts

module _ (rows : List Row) where
  pub record TreeFront (l r : List ℕ) : Type 0 where
    pub tree : Tree
    pub passes : T (tree_ok tree)
    pub fits : T (fitting (numbered_in rows) tree)
    pub words : l ≡ tokens (number_in rows) tree ++ r

  -- n values of an arm, or results
  pub record ValuesFront (row n : ℕ) (l r : List ℕ) : Type 0 where
    pub values : List Tree
    pub count : length values ≡ n
    pub passes : T (trees_ok values)
    pub fits : T (all_fitting (numbered_in rows) values)
    pub words : l ≡ each_words (number_in rows) row values ++ r

  pub record StmtFront (l r : List ℕ) : Type 0 where
    pub stmt : Intermediate
    pub passes : T (intermediate_ok stmt)
    pub fits : T (stmt_fitting (numbered_in rows) stmt)
    pub words : l ≡ intermediate_words (number_in rows) stmt ++ r

  -- n statements, and no other after them
  pub record StmtsFront (n : ℕ) (l r : List ℕ) : Type 0 where
    pub stmts : Intermediates
    pub count : step_count stmts ≡ n
    pub passes : T (intermediates_ok stmts)
    pub fits : T (stmts_fitting (numbered_in rows) stmts)
    pub words : l ≡ intermediates_words (number_in rows) stmts ++ r
    pub last : T (no_statement r)

  -- m arms of a match of n names
  pub record ArmsFront (n m : ℕ) (l r : List ℕ) : Type 0 where
    pub arms : Arms
    pub count : arm_count arms ≡ m
    pub passes : T (arms_ok n arms)
    pub fits : T (arms_fitting (numbered_in rows) arms)
    pub words : l ≡ arms_words (number_in rows) arms ++ r

  -- n match names, and no other after them
  pub record NamesFront (n : ℕ) (l r : List ℕ) : Type 0 where
    pub names : List Name
    pub count : length names ≡ n
    pub made : T (match_names names)
    pub words : l ≡ names_words (number_in rows) names ++ r
    pub last : T (no_match_name r)

  -- a match of n names and m arms up to its arms: its row, its key, which stands in front of l1, and its names, in front of l2
  pub record HeadFront (n m : ℕ) (l r : List ℕ) : Type 0 where
    pub kind : ℕ
    pub l1 : List ℕ
    pub l2 : List ℕ
    pub switch : T (is_switch kind && arity_ok kind (suc m))
    pub some : 1 ≤ n
    pub row : l ≡ word (match_row kind) (suc (n + m)) ∷ l1
    pub key : TreeFront l1 l2
    pub names : NamesFront n l2 r

  -- the words are an answer's rows but for its references
  pub record AnswerRows (ws : List ℕ) : Type 0 where
    pub answer : Answer
    pub parts : T (intermediates_ok answer.inters)
    pub results : T (trees_ok answer.results)
    pub parts_fit : T (stmts_fitting (numbered_in rows) answer.inters)
    pub results_fit : T (all_fitting (numbered_in rows) answer.results)
    pub words : ws ≡ answer_words (number_in rows) answer

  -- all that is left is results
  abbrev pub Results : List ℕ → Type 0
  Results l = (n : ℕ) × ValuesFront result_row n l []

-- what is left after one part is exactly what is left after another
pub record Same (part other : List ℕ → Type 0) : Type 0 where
  pub to : (r : List ℕ) → part r → other r
  pub from : (r : List ℕ) → other r → part r

-- statements stand from a place to another, and what stands after them is as it would be read from the first place
pub record Through (rows : List Row) (ws : List ℕ) (at count i : ℕ) : Type 0 where
  pub to : (n : ℕ) (r : List ℕ) → StmtsFront rows n (drop i ws) r → StmtsFront rows (count + n) (drop at ws) r
  pub from : (n : ℕ) (r : List ℕ) → StmtsFront rows n (drop at ws) r → (m : ℕ) × (n ≡ count + m) × StmtsFront rows m (drop i ws) r

-- the same for match names
abbrev pub Named : List ℕ → ℕ → ℕ → Type 0
Named ws at i = (rows : List Row) (m : ℕ) (r : List ℕ) → NamesFront rows m (drop i ws) r → NamesFront rows (i - at + m) (drop at ws) r
