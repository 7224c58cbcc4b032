-- 13 decided by what answers are: words are laid out exactly where they are the rows of an answer whose parts and references are right. Assumes nothing.
use Prim.Native.Nat.{ℕ}
use mathlib.Core.Path.{◌≡◌, refl, sym, ◌∙◌, ap, subst}
use mathlib.Core.Bool.{Bool, ◌&&◌}
use mathlib.Core.List.{List}
use lib.Dec.{T}
use Rattle.spec_tree.specs.Bytes.{eq_bytes}
use Rattle.spec_tree.specs.Rows.{Row}
use Rattle.spec_tree.specs.Passes.{trees_ok}
use Rattle.spec_tree.specs.Tokens.{number_in, name_in}
use Rattle.spec_tree.proofs.Logic.{and_left, and_right, and_both}
use Rattle.spec_tree.proofs.TreeLaws.{eq_bytes_sound, eq_bytes_refl}
use Rattle.spec_cse.specs.Answer.{Answer}
use Rattle.spec_cse.specs.AnswerRows.{answer_words, answer_of, intermediates_ok, references_ok, rows_of_answer}
use Rattle.laws.specs.answer.Fitting.{all_fitting, stmts_fitting, numbered_in}
use Rattle.laws.proofs.answer.ReadBack.{answer_back}
use Rattle.laws.proofs.answer.ListNames.{numbered_back, answer_fits}

-- the words are an answer's rows, and its parts and references are right
pub record RowsOf (rows : List Row) (ws : List ℕ) : Type 0 where
  pub answer : Answer
  pub words : answer_words (number_in rows) answer ≡ ws
  pub parts : T (intermediates_ok answer.inters)
  pub results : T (trees_ok answer.results)
  pub references : T (references_ok rows answer)

pub laid_rows : (rows : List Row) (ws : List ℕ) → T (rows_of_answer rows ws) → RowsOf rows ws
unfolding rows_of_answer
laid_rows rows ws h =
    let a = answer_of (name_in rows) 0 ws in
    let same = eq_bytes (answer_words (number_in rows) a) ws in
    let rest = trees_ok a.results && references_ok rows a in
    let g = and_right same (intermediates_ok a.inters && rest) h in
    let r = and_right (intermediates_ok a.inters) rest g in
    record {
      answer = a;
      words = eq_bytes_sound (answer_words (number_in rows) a) ws (and_left same (intermediates_ok a.inters && rest) h);
      parts = and_left (intermediates_ok a.inters) rest g;
      results = and_left (trees_ok a.results) (references_ok rows a) r;
      references = and_right (trees_ok a.results) (references_ok rows a) r;
    }

-- the same answer without its extraction count, which no row holds
abbrev pub uncounted : Answer → Answer
uncounted a = record { inters = a.inters; results = a.results; extracted = 0 }

pub same_words : (number : List ℕ → ℕ) (a : Answer) → answer_words number (uncounted a) ≡ answer_words number a
unfolding answer_words
same_words number a = refl

pub same_references : (rows : List Row) (a : Answer) → references_ok rows (uncounted a) ≡ references_ok rows a
unfolding references_ok
same_references rows a = refl

-- the rows of an answer whose symbols are the list's give it back
pub read_back :
    (rows : List Row) (a : Answer) → T (stmts_fitting (numbered_in rows) a.inters) → T (all_fitting (numbered_in rows) a.results)
    → answer_of (name_in rows) a.extracted (answer_words (number_in rows) a) ≡ a
read_back rows a h g = answer_back (number_in rows) (name_in rows) (numbered_in rows) (numbered_back rows) a h g

abbrev laid_by : List Row → List ℕ → Answer → Bool
laid_by rows ws a = eq_bytes (answer_words (number_in rows) a) ws && (intermediates_ok a.inters && (trees_ok a.results && references_ok rows a))

pub rows_laid : (rows : List Row) (ws : List ℕ) → RowsOf rows ws → T (rows_of_answer rows ws)
unfolding rows_of_answer
rows_laid rows ws r =
    let a = uncounted r.answer in
    let refs : T (references_ok rows a) = subst (λ (b : Bool). T b) (sym (same_references rows r.answer)) r.references in
    let f = answer_fits rows a r.parts r.results refs in
    let words : answer_words (number_in rows) a ≡ ws = same_words (number_in rows) r.answer ∙ r.words in
    let e : answer_of (name_in rows) 0 ws ≡ a = ap (answer_of (name_in rows) 0) (sym words) ∙ read_back rows a f.0 f.1 in
    subst (λ (x : Answer). T (laid_by rows ws x)) (sym e)
    (and_both (eq_bytes (answer_words (number_in rows) a) ws) (intermediates_ok a.inters && (trees_ok a.results && references_ok rows a))
    (subst (λ (l : List ℕ). T (eq_bytes l ws)) (sym words) (eq_bytes_refl ws))
    (and_both (intermediates_ok a.inters) (trees_ok a.results && references_ok rows a) r.parts (and_both (trees_ok a.results) (references_ok rows a) r.results refs)))
