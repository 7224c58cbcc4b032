-- What the test for refusal 9 answers (01, "Turned down": Extract). Assumes nothing.
use Rattle.std.specs.Prelude.{ℕ, List}
use Rattle.spec_tree.specs.Outcome.{Outcome, ok, ◌>>=◌}
use Rattle.spec_tree.specs.Rows.{trees, occurrences}
use Rattle.spec_tree.specs.Layout.{table_or_9}

-- how many occurrences the roots of the rows have, or 9
unfoldable pub check_rows : List ℕ → List ℕ → Outcome ℕ
unfolding table_or_9 trees occurrences
check_rows ws ns = table_or_9 ws ns >>= λ t. ok (occurrences (trees t))
