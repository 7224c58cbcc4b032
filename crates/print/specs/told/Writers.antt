-- What each writer of a part of an answer does, for whatever part stands at its place (Places). Assumes nothing.
use Rattle.std.specs.Prelude.{ℕ, ◌+◌, ◌≡◌, Bool, false, not, List, [], ◌∷◌, ◌++◌, length, T, eqb}
use Rattle.spec_tree.specs.Tree.{Name, Tree}
use Rattle.spec_tree.specs.Rows.{Row}
use Rattle.spec_tree.specs.Passes.{trees_ok}
use Rattle.spec_tree.specs.Tokens.{word, tokens, number_in}
use Rattle.spec_tree.specs.text.Text.{display}
use Rattle.spec_cse.specs.Answer.{Intermediate, Intermediates, Arms, Answer, names_texts, displays, tuple, arm_text, stmt_text, stmts_texts, arms_texts, lines, answer_text}
use Rattle.spec_cse.specs.AnswerRows.{value_row, result_row, arm_row, each_words, intermediate_words, intermediates_words, arms_words, intermediates_ok, step_count, answer_words}
use Rattle.laws.specs.answer.Fitting.{all_fitting, stmts_fitting, numbered_in}
use Rattle.fmt.specs.emit.Writing.{Writes}
use Rattle.print.specs.told.Places.{TreeAt, ValuesAt, NamesAt, StmtAt, ArmAt, ArmsAt, Passed, Owes}
use Rattle.print.specs.told.Pieces.{let_text, head_text, arms_run}

module _ (rows : List Row) (ws : List ℕ) (at : ℕ) (dry : Bool) (old : List ℕ) (to : ℕ) (new : List ℕ) (next end : ℕ) where
  abbrev pub TreeWritten : Type 0
  TreeWritten = (t : Tree) → TreeAt rows ws at t → Passed dry old at to (tokens (number_in rows) t) (display t) new next end

  -- n values as a tuple
  abbrev pub ValuesWritten : ℕ → Type 0
  ValuesWritten n = (vs : List Tree) → ValuesAt rows ws value_row n at vs → Passed dry old at to (each_words (number_in rows) value_row vs) (tuple (displays vs)) new next end

  abbrev pub LetWritten : List ℕ → Type 0
  LetWritten name = (t : Tree) → TreeAt rows ws at t → Passed dry old at to (tokens (number_in rows) t) (let_text name t) new next end

  abbrev pub StmtWritten : Type 0
  StmtWritten = (s : Intermediate) → StmtAt rows ws at s → Passed dry old at to (intermediate_words (number_in rows) s) (stmt_text s) new next end

  -- an arm with n values
  abbrev pub ArmWritten : Bool → ℕ → Type 0
  ArmWritten bare n =
      (s : Intermediates) (vs : List Tree) → ArmAt rows ws n at s vs
      → Passed dry old at to (word arm_row (step_count s + length vs) ∷ (intermediates_words (number_in rows) s ++ each_words (number_in rows) value_row vs)) (arm_text bare (stmts_texts s) (tuple (displays vs))) new next end

  -- m arms with n values each
  abbrev pub ArmsWritten : Bool → Bool → ℕ → ℕ → Type 0
  ArmsWritten bare or_default n m =
      (l : Arms) → ArmsAt rows ws n m at l → Passed dry old at to (arms_words (number_in rows) l) (arms_run bare or_default m 0 (arms_texts l bare)) new next end

module _ (rows : List Row) (ws : List ℕ) (dry : Bool) (old : List ℕ) (to : ℕ) (new : List ℕ) (end : ℕ) where
  -- n names as a tuple
  abbrev pub NamesWritten : ℕ → ℕ → Type 0
  NamesWritten n at = (ns : List Name) → NamesAt rows ws n at ns → Writes dry old to (tuple (names_texts ns)) new end

  -- a match up to its arms, whatever stands after
  abbrev pub HeadWritten : Bool → ℕ → ℕ → ℕ → Type 0
  HeadWritten bare key n at =
      (t : Tree) (ns : List Name) (after : List ℕ) → TreeAt rows ws key t → NamesAt rows ws n at ns → Owes dry old to (head_text bare (tuple (names_texts ns)) t after) new end after

-- ---- an answer's rows

pub record AnswerAt (rows : List Row) (ws : List ℕ) (a : Answer) : Type 0 where
  pub parts : T (intermediates_ok a.inters)
  pub parts_fit : T (stmts_fitting (numbered_in rows) a.inters)
  pub results : T (trees_ok a.results)
  pub results_fit : T (all_fitting (numbered_in rows) a.results)
  pub words : ws ≡ answer_words (number_in rows) a

-- all that is left from a place on is these results
pub record ResultsAt (rows : List Row) (ws : List ℕ) (at : ℕ) (vs : List Tree) : Type 0 where
  pub here : ValuesAt rows ws result_row (length vs) at vs
  pub last : at + length (each_words (number_in rows) result_row vs) ≡ length ws

module _ (rows : List Row) (ws : List ℕ) (dry : Bool) (old : List ℕ) (to : ℕ) (new : List ℕ) (end : ℕ) where
  -- each result and a line feed
  abbrev pub ResultsWritten : ℕ → Type 0
  ResultsWritten at = (vs : List Tree) → ResultsAt rows ws at vs → Writes dry old to (lines (displays vs)) new end

  -- each binding and a line feed; then the results stand at `next`
  abbrev pub BindingsWritten : ℕ → Type 0
  BindingsWritten next =
      (a : Answer) → AnswerAt rows ws a → ResultsAt rows ws next a.results × Owes dry old to (answer_text a) new end (lines (displays a.results))

  abbrev pub AnswerWritten : Type 0
  AnswerWritten = (a : Answer) → AnswerAt rows ws a → Writes dry old to (answer_text a) new end

-- a statement's row is ahead, and not a result's or the end
unfoldable pub statement_ahead : List ℕ → Bool
statement_ahead [] = false
statement_ahead (w ∷ l) = not (eqb w result_row)

-- ---- some part stands at a place

module _ (rows : List Row) (ws : List ℕ) where
  abbrev pub SomeTree : ℕ → Type 0
  SomeTree at = (t : Tree) × TreeAt rows ws at t

  abbrev pub SomeValues : ℕ → ℕ → Type 0
  SomeValues n at = (vs : List Tree) × ValuesAt rows ws value_row n at vs

  abbrev pub SomeNames : ℕ → ℕ → Type 0
  SomeNames n at = (ns : List Name) × NamesAt rows ws n at ns

  abbrev pub SomeStmt : ℕ → Type 0
  SomeStmt at = (s : Intermediate) × StmtAt rows ws at s

  abbrev pub SomeArm : ℕ → ℕ → Type 0
  SomeArm n at = (s : Intermediates) × (vs : List Tree) × ArmAt rows ws n at s vs

  abbrev pub SomeArms : ℕ → ℕ → ℕ → Type 0
  SomeArms n m at = (l : Arms) × ArmsAt rows ws n m at l

  abbrev pub SomeResults : ℕ → Type 0
  SomeResults at = (vs : List Tree) × ResultsAt rows ws at vs

  abbrev pub SomeAnswer : Type 0
  SomeAnswer = (a : Answer) × AnswerAt rows ws a
