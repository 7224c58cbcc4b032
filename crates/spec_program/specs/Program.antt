-- What the programs write (01, "Sheet and printing"): `csesheet` the flat answer, by `written`, in which no size of a table or buffer stands, and so no 7, 8, 12, 13 or
-- 14: what it lends has to be long enough for every answer. Its twin `csescoped` writes the scoped one by the three calls with what it lends, 131,072 rows and 524,288
-- bytes, and so refuses by 12 or 14 an answer that is longer; where they are enough it is `written true` (guarantee/proofs/passing/Enough). Assumes nothing.
use Rattle.std.specs.Prelude.{Bool, true, false, List, ◌++◌, ℕ}
use Rattle.spec_tree.specs.Outcome.{Outcome, ok, refused, ◌>>=◌}
use Rattle.spec_tree.specs.Bytes.{bytes, decimal}
use Rattle.spec_tree.specs.Rows.{trees}
use Rattle.spec_cse.specs.Answer.{answer_text}
use Rattle.spec_cse.specs.Scope.{answer}
use Rattle.spec_sheet.specs.Sheet.{load}
use Rattle.spec_program.specs.Calls.{by_calls}

-- a text as it is, and a refusal as a line
unfoldable pub reply : Outcome (List ℕ) → List ℕ
unfolding decimal
reply (ok text) = text
reply (refused r) = bytes "refused " ++ decimal r.number ++ bytes " " ++ decimal r.place ++ bytes "\n"

unfoldable pub written : Bool → List ℕ → List ℕ
unfolding load trees answer answer_text reply
written scoped sheet = reply (load 1024 64 sheet >>= λ t. answer scoped (trees t) >>= λ a. ok (answer_text a))

unfoldable pub csesheet : List ℕ → List ℕ
unfolding written
csesheet sheet = written false sheet

unfoldable pub csescoped : List ℕ → List ℕ
unfolding by_calls reply
csescoped sheet = reply (by_calls true 131072 524288 sheet)
