-- Where the parts of an answer stand in its rows, and what a writer of a part's text leaves (01, "Sheet and printing"). A part is one that print takes, with the
-- symbols of the list's node rows (AnswerRows, Fitting). Assumes nothing.
use Rattle.std.specs.Prelude.{ℕ, suc, ◌+◌, ◌≡◌, Bool, cond, List, [], ◌∷◌, ◌++◌, length, drop, T, eqb}
use Rattle.spec_tree.specs.Tree.{Name, Tree}
use Rattle.spec_tree.specs.Rows.{Row}
use Rattle.spec_tree.specs.Passes.{tree_ok, trees_ok}
use Rattle.spec_tree.specs.Tokens.{word, tokens, number_in, kind_of}
use Rattle.spec_cse.specs.Answer.{Intermediate, Intermediates, Arms}
use Rattle.spec_cse.specs.Read.{arm_count}
use Rattle.spec_cse.specs.AnswerRows.{name_row, arm_row, value_row, step_count, names_words, each_words, intermediate_words, intermediates_words, arms_words, match_names, intermediate_ok, intermediates_ok, arms_ok}
use Rattle.laws.specs.answer.Fitting.{fitting, all_fitting, stmt_fitting, stmts_fitting, arms_fitting, numbered_in}
use Rattle.fmt.specs.emit.Writing.{Writes}

-- some words stand at a place, and others after them
pub record At (ws : List ℕ) (at : ℕ) (part : List ℕ) : Type 0 where
  pub rest : List ℕ
  pub words : drop at ws ≡ part ++ rest

-- how many of the words in front are match names' rows
unfoldable pub names_ahead : List ℕ → ℕ
names_ahead [] = 0
names_ahead (w ∷ l) = cond (eqb (kind_of w) name_row) (suc (names_ahead l)) 0

module _ (rows : List Row) (ws : List ℕ) where
  pub record TreeAt (at : ℕ) (t : Tree) : Type 0 where
    pub passes : T (tree_ok t)
    pub fits : T (fitting (numbered_in rows) t)
    pub here : At ws at (tokens (number_in rows) t)

  -- n values or results, as their rows say
  pub record ValuesAt (row n at : ℕ) (vs : List Tree) : Type 0 where
    pub count : length vs ≡ n
    pub passes : T (trees_ok vs)
    pub fits : T (all_fitting (numbered_in rows) vs)
    pub here : At ws at (each_words (number_in rows) row vs)

  pub record NamesAt (n at : ℕ) (ns : List Name) : Type 0 where
    pub count : length ns ≡ n
    pub made : T (match_names ns)
    pub here : At ws at (names_words (number_in rows) ns)

  pub record StmtAt (at : ℕ) (s : Intermediate) : Type 0 where
    pub passes : T (intermediate_ok s)
    pub fits : T (stmt_fitting (numbered_in rows) s)
    pub here : At ws at (intermediate_words (number_in rows) s)

  -- an arm with n values
  pub record ArmAt (n at : ℕ) (s : Intermediates) (vs : List Tree) : Type 0 where
    pub passes : T (intermediates_ok s)
    pub fits : T (stmts_fitting (numbered_in rows) s)
    pub count : length vs ≡ n
    pub values_pass : T (trees_ok vs)
    pub values_fit : T (all_fitting (numbered_in rows) vs)
    pub here : At ws at (word arm_row (step_count s + length vs) ∷ (intermediates_words (number_in rows) s ++ each_words (number_in rows) value_row vs))

  -- m arms with n values each
  pub record ArmsAt (n m at : ℕ) (l : Arms) : Type 0 where
    pub count : arm_count l ≡ m
    pub passes : T (arms_ok n l)
    pub fits : T (arms_fitting (numbered_in rows) l)
    pub here : At ws at (arms_words (number_in rows) l)

-- a part's words were passed and its text written
pub record Passed (dry : Bool) (old : List ℕ) (at to : ℕ) (part text new : List ℕ) (next end : ℕ) : Type 0 where
  pub token : next ≡ at + length part
  pub written : Writes dry old to text new end

-- what is still to be written from a place on makes the whole
abbrev pub Owes : Bool → List ℕ → ℕ → List ℕ → List ℕ → ℕ → List ℕ → Type 0
Owes dry old to whole mid at rest = (new : List ℕ) (end : ℕ) → Writes dry mid at rest new end → Writes dry old to whole new end
