-- The end of flat extraction on words (01, "Reciprocals", "Order", "Turned down", refusals 11 and 12): the divisors at some places are bound, the bindings are put in
-- the order of their needs, and the answer is written as rows, where as many are lent. Assumes nothing.
use Rattle.std.specs.Prelude.{ℕ, cond, List, map, length, get_or, drop, ltb}
use Rattle.spec_tree.specs.Outcome.{Outcome, ok, refused, by, ◌>>=◌}
use Rattle.spec_tree.specs.Tree.{Tree}
use Rattle.spec_tree.specs.Tokens.{read, numbered}
use Rattle.spec_cse.specs.Answer.{Answer, rows}
use Rattle.spec_cse.specs.AnswerRows.{answer_words}
use Rattle.spec_cse.specs.Scope.{Scoped, unfused, finish, as_answer}
use Rattle.spec_cse.specs.Call.{Extracted}
use Rattle.laws.specs.positions.Places.{numbered_at}
use Rattle.laws.specs.positions.Rounds.{state_of, next_number, bind_each_on, bind_each_words}

-- the divisors at the places, as they are before the first is bound
abbrev pub divisors_at : List ℕ → List ℕ → List Tree
divisors_at ws places = map (numbered_at ws) places

-- all trees with the divisors at the places bound: k results, then the bindings by number from 0 on
unfoldable pub final_trees : ℕ → List ℕ → List ℕ → List Tree
unfolding bind_each_on numbered_at next_number read
final_trees k places ws = bind_each_on (divisors_at ws places) (next_number k 0 (read numbered ws)) (read numbered ws)

-- the same on words
unfoldable pub final_words : ℕ → List ℕ → List ℕ → List ℕ
unfolding bind_each_words numbered_at next_number read
final_words k places ws = bind_each_words (divisors_at ws places) (next_number k 0 (read numbered ws)) ws

-- the bindings in the order of their needs, or refusal 11
unfoldable pub final_scope : ℕ → List ℕ → List ℕ → Outcome Scoped
unfolding finish unfused state_of read final_words
final_scope k places ws = finish (unfused (length (drop k (read numbered ws))) (state_of k 0 (read numbered (final_words k places ws))))

-- an answer as rows, or refusal 12 where fewer are lent
unfoldable pub rows_or_12 : ℕ → Answer → Outcome Extracted
unfolding rows answer_words
rows_or_12 lent a = cond (ltb lent (rows a)) (refused (by 12)) (ok (record { words = answer_words (λ s. get_or s 0 0) a; extracted = a.extracted }))

-- the whole end, given how many rows are lent
unfoldable pub final_rows : ℕ → ℕ → List ℕ → List ℕ → Outcome Extracted
unfolding final_scope as_answer rows_or_12
final_rows lent k places ws = final_scope k places ws >>= λ a. ok (as_answer a) >>= λ a. rows_or_12 lent a
