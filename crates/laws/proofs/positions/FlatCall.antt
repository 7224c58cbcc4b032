-- The flat call of extract from the words of a table's trees: rounds on words, reciprocals on words, and the statements in order. Assumes nothing.
use Prim.Native.Nat.{ℕ}
use mathlib.Core.Path.{◌≡◌, ◌∙◌, ap}
use mathlib.Core.Bool.{false, ◌||◌}
use mathlib.Core.Option.{some}
use mathlib.Core.List.{List}
use lib.ListN.{length, drop}
use lib.Dec.{T, ltb}
use Rattle.spec_tree.specs.Outcome.{Outcome, ok, ◌>>=◌}
use Rattle.spec_tree.specs.Rows.{Table, trees}
use Rattle.spec_tree.specs.Facts.{all_operations}
use Rattle.spec_tree.specs.Layout.{table_of, laid_out}
use Rattle.spec_tree.specs.Tokens.{read, numbered, name_in, trees_in}
use Rattle.spec_tree.proofs.TokenLaws.{complete_length}
use Rattle.spec_tree.proofs.TokenCode.{unnumbered}
use Rattle.spec_cse.specs.Answer.{Answer}
use Rattle.spec_cse.specs.Scope.{Scoped, unfused, finish, area_rows, as_answer}
use Rattle.spec_cse.specs.Call.{Extracted, work_words, work_bytes, extract_call}
use Rattle.laws.specs.positions.Shown.{answer_by}
use Rattle.laws.specs.positions.Rounds.{state_of, rounds_words, reciprocals_words}
use Rattle.laws.proofs.positions.Extraction.{shown}
use Rattle.laws.proofs.positions.RowNames.{names_of, tree_words, table_complete}
use Rattle.laws.proofs.positions.Calls.{written, laid_expressions, call_from_words}
use Rattle.laws.proofs.positions.WordRounds.{flat_words}
use Rattle.spec_tree.proofs.Outcomes.{then_then}

-- the scope that words are, with k results, after its rounds: its bindings by number, with reciprocals, in the order of their needs
abbrev pub flat_end : (ℕ → List ℕ) → ℕ → List ℕ → Outcome Scoped
flat_end name_at k vs = finish (unfused (length (drop k (read numbered vs))) (state_of k 0 (read numbered (reciprocals_words name_at false k 0 vs))))

-- rounds, and then the end
abbrev pub flat_from_words : (ℕ → List ℕ) → ℕ → List ℕ → Outcome Scoped
flat_from_words name_at k ws = rounds_words name_at (all_operations (read numbered ws)) false k 0 ws >>= λ vs. flat_end name_at k vs

answer_flat :
    (t : Table) (m : ℕ) → trees_in (tree_words t) ≡ some m
    → answer_by (shown (names_of t.rows)) false (read numbered (tree_words t)) ≡ (flat_from_words (name_in t.rows) (length (read numbered (tree_words t))) (tree_words t) >>= λ a. ok (as_answer a))
unfolding answer_by
answer_flat t m c = ap (λ (o : Outcome Scoped). o >>= λ a. ok (as_answer a)) (flat_words (name_in t.rows) 8 area_rows 0 (tree_words t) m c)

pub flat_call :
    (words_lent bytes_lent : ℕ) (ws ns : List ℕ) (lent : ℕ) → (ltb words_lent work_words || ltb bytes_lent work_bytes) ≡ false → T (laid_out ws ns)
    → let t = table_of ws ns in
    extract_call false words_lent bytes_lent ws ns lent
    ≡ (flat_from_words (name_in t.rows) (length (trees t)) (tree_words t) >>= λ a. ok (as_answer a) >>= λ a. written unnumbered lent a)
flat_call words_lent bytes_lent ws ns lent e h =
    let t = table_of ws ns in
    let c = table_complete t (laid_expressions ws ns h) in
    let k : length (read numbered (tree_words t)) ≡ length (trees t) = complete_length numbered (tree_words t) (length (trees t)) c in
    let done : ℕ → Outcome Extracted = λ k. ((flat_from_words (name_in t.rows) k (tree_words t) >>= λ a. ok (as_answer a)) >>= λ a. written unnumbered lent a) in
    call_from_words false words_lent bytes_lent ws ns lent e h
    ∙ ap (λ (o : Outcome Answer). o >>= λ a. written unnumbered lent a) (answer_flat t (length (trees t)) c)
    ∙ ap done k
    ∙ then_then (flat_from_words (name_in t.rows) (length (trees t)) (tree_words t)) (λ a. ok (as_answer a)) (λ a. written unnumbered lent a)
