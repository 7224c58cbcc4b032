-- The call of extract from words whose symbols are numbers: the same answer, words and refusals, where texts are those under the names of the rows. Assumes
-- nothing.
use Prim.Native.Nat.{ℕ}
use mathlib.Core.Path.{◌≡◌, refl, ◌∙◌, ap, ap₂, subst}
use mathlib.Core.Bool.{Bool, true, false, ◌||◌, cond}
use mathlib.Core.List.{List}
use lib.Dec.{T, ltb}
use Rattle.spec_tree.specs.Outcome.{Outcome, ok, refused, by, ◌>>=◌}
use Rattle.spec_tree.specs.Tree.{Tree}
use Rattle.spec_tree.specs.Rows.{Row, Table, trees}
use Rattle.spec_tree.specs.Passes.{expressions}
use Rattle.spec_tree.specs.Layout.{table_of, laid_out, table_or_9}
use Rattle.spec_tree.specs.Tokens.{number_in, read, numbered}
use Rattle.spec_tree.proofs.LayoutLaws.{laid_out_passes}
use Rattle.spec_tree.proofs.TokenCode.{unnumbered}
use Rattle.spec_cse.specs.Answer.{Answer, rows}
use Rattle.spec_cse.specs.AnswerRows.{answer_words}
use Rattle.spec_cse.specs.Scope.{answer}
use Rattle.spec_cse.specs.Call.{Extracted, work_words, work_bytes, extract_call}
use Rattle.laws.proofs.cse.Outcomes.{Good}
use Rattle.laws.specs.positions.Shown.{answer_by}
use Rattle.laws.proofs.positions.Rewriting.{Agree}
use Rattle.laws.proofs.positions.Extraction.{shown}
use Rattle.laws.proofs.positions.Answers.{renamed_answer, KnownAnswer, rows_renamed, answer_words_renamed}
use Rattle.laws.proofs.positions.RowNames.{names_of, known_number, tree_words, table_renamed, table_known}
use Rattle.laws.proofs.positions.Scopes.{answer_renamed}
use Rattle.laws.proofs.cse.PassesLaws.{passed}

-- an answer as rows, where as many are lent
abbrev pub written : (List ℕ → ℕ) → ℕ → Answer → Outcome Extracted
written number lent a = cond (ltb lent (rows a)) (refused (by 12)) (ok (record { words = answer_words number a; extracted = a.extracted }))

written_renamed :
    (l : List Row) (lent : ℕ) (a : Answer) → KnownAnswer (names_of l) a → written (number_in l) lent (renamed_answer (names_of l) a) ≡ written unnumbered lent a
written_renamed l lent a h =
    ap₂ (λ (n : ℕ) (ws : List ℕ). cond (ltb lent n) (refused (by 12)) (ok (record { words = ws; extracted = a.extracted }))) (rows_renamed (names_of l) a)
    (answer_words_renamed (names_of l) (number_in l) (known_number l) a h)

-- the answer of a table's trees from their words
pub table_answer :
    (scoped : Bool) (t : Table) (h : T (expressions (trees t)))
    → Agree (KnownAnswer (names_of t.rows)) (renamed_answer (names_of t.rows)) (answer_by (shown (names_of t.rows)) scoped (read numbered (tree_words t)))
    (answer scoped (trees t))
table_answer scoped t h =
    let R = names_of t.rows in
    subst (λ (l : List Tree). Agree (KnownAnswer R) (renamed_answer R) (answer_by (shown R) scoped (read numbered (tree_words t))) (answer scoped l)) (table_renamed t h)
    (answer_renamed R scoped (read numbered (tree_words t)) (table_known t h))

-- and its rows
pub table_rows :
    (scoped : Bool) (t : Table) (h : T (expressions (trees t))) (lent : ℕ)
    → (answer scoped (trees t) >>= λ a. written (number_in t.rows) lent a)
    ≡ (answer_by (shown (names_of t.rows)) scoped (read numbered (tree_words t)) >>= λ a. written unnumbered lent a)
unfolding Good
table_rows scoped t h lent =
    let R = names_of t.rows in
    let a = table_answer scoped t h in
    ap (λ (o : Outcome Answer). o >>= λ a. written (number_in t.rows) lent a) a.1 ∙ go (answer_by (shown R) scoped (read numbered (tree_words t))) a.0
  where
    go : (o : Outcome Answer) → Good (KnownAnswer (names_of t.rows)) o
        → ((o >>= λ a. ok (renamed_answer (names_of t.rows) a)) >>= λ a. written (number_in t.rows) lent a) ≡ (o >>= λ a. written unnumbered lent a)
    go (ok a) k = written_renamed t.rows lent a k
    go (refused i) k = refl

-- ---- the whole call

pub laid_expressions : (ws ns : List ℕ) → T (laid_out ws ns) → T (expressions (trees (table_of ws ns)))
laid_expressions ws ns h = passed (trees (table_of ws ns)) (laid_out_passes ws ns h)

-- what the call gives from the words of a table's trees
abbrev pub from_words : Bool → ℕ → Table → Outcome Extracted
from_words scoped lent t = answer_by (shown (names_of t.rows)) scoped (read numbered (tree_words t)) >>= λ a. written unnumbered lent a

-- with the work area lent and rows that are laid out
pub call_from_words :
    (scoped : Bool) (words_lent bytes_lent : ℕ) (ws ns : List ℕ) (lent : ℕ) → (ltb words_lent work_words || ltb bytes_lent work_bytes) ≡ false → T (laid_out ws ns)
    → extract_call scoped words_lent bytes_lent ws ns lent ≡ from_words scoped lent (table_of ws ns)
unfolding extract_call table_or_9
call_from_words scoped words_lent bytes_lent ws ns lent e h =
    ap
    (λ (b : Bool).
    cond b (refused (by 8)) ((cond (laid_out ws ns) (ok (table_of ws ns)) (refused (by 9))) >>= λ t. answer scoped (trees t) >>= λ a. written (number_in t.rows) lent a)) e
    ∙ ap (λ (b : Bool). (cond b (ok (table_of ws ns)) (refused (by 9))) >>= λ t. answer scoped (trees t) >>= λ a. written (number_in t.rows) lent a) (go (laid_out ws ns) h)
    ∙ table_rows scoped (table_of ws ns) (laid_expressions ws ns h) lent
  where
    go : (b : Bool) → T b → b ≡ true
    go true t = refl
    go false t = absurd t
