-- The call of extract after 8, and what rounds with the divisors to bind leave (01, "Turned down": Extract; "Extraction", "Reciprocals"). Assumes nothing.
use Rattle.std.specs.Prelude.{ℕ, ◌≤◌, ◌≡◌, Bool, cond, List, length, take, drop, ltb}
use Rattle.spec_tree.specs.Outcome.{Refusal, Outcome, ok, refused, by, ◌>>=◌}
use Rattle.spec_tree.specs.Rows.{Row, trees}
use Rattle.spec_tree.specs.Layout.{table_or_9}
use Rattle.spec_tree.specs.Tokens.{number_in, read, numbered, name_in}
use Rattle.spec_cse.specs.Answer.{rows}
use Rattle.spec_cse.specs.AnswerRows.{answer_words}
use Rattle.spec_cse.specs.Scope.{answer}
use Rattle.spec_cse.specs.Call.{Extracted}
use Rattle.laws.specs.positions.Places.{divisors_to_bind}
use Rattle.rounds.specs.Rounds.{all_rounds}

-- 9, and then whichever the steps reach first, given the node rows, the roots, and how many answer rows are lent
unfoldable pub extract_from : Bool → List ℕ → List ℕ → ℕ → Outcome Extracted
unfolding table_or_9 trees answer rows answer_words number_in
extract_from scoped node_rows roots rows_lent =
    table_or_9 node_rows roots >>= λ t.
    answer scoped (trees t) >>= λ a.
    cond (ltb rows_lent (rows a)) (refused (by 12)) (ok (record { words = answer_words (number_in t.rows) a; extracted = a.extracted }))

-- after the rounds on some words: n words stand in front, m bindings were made, and the places of the d divisors to bind stand in front
abbrev pub RoundsListed : List Row → Bool → ℕ → List ℕ → ℕ → ℕ → ℕ → List ℕ → List ℕ → Type 0
RoundsListed rows scoped first ws n m d tokens places =
    (all_rounds rows scoped first ws ≡ ok (take n tokens))
    × (m ≡ length (drop (length (read numbered ws)) (read numbered (take n tokens))))
    × (take d places ≡ divisors_to_bind (take n tokens) (name_in rows) scoped)
    × (n ≤ length tokens)
    × (d ≤ length places)

-- or a coefficient is refused
abbrev pub RoundsRefused : List Row → Bool → ℕ → List ℕ → Type 0
RoundsRefused rows scoped first ws = (i : Refusal) × (all_rounds rows scoped first ws ≡ refused i)
