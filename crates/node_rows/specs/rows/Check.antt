-- The limits of 01's first section on rows, which are refusal 9 but for the length of their sheet, and the tests that the code makes of one row after another, in its order.
-- TableLaws shows that together they are `laid-in-domain`. Assumes nothing.
use Rattle.std.specs.Prelude.{Option, Some, None, ℕ, zero, suc, ◌+◌, ◌*◌, ◌/◌, ◌≤◌, ◌≡◌, Bool, true, ◌&&◌, cond, List, length, get_or, take, drop, leb}
use Rattle.spec_tree.specs.Outcome.{Outcome, ok, refused, by, ◌>>=◌}
use Rattle.spec_tree.specs.Bytes.{eq_bytes, every}
use Rattle.spec_tree.specs.Rows.{trees, occurrences}
use Rattle.spec_tree.specs.Layout.{table_words, table_of, in_domain}
use Rattle.node_rows.specs.fields.Below.{below}
use Rattle.node_rows.specs.fields.Tests.{fields_test}

-- the words are the rows of a list within every limit of 01's first section
unfoldable pub laid_in_domain : List ℕ → List ℕ → Bool
unfolding table_of table_words eq_bytes in_domain
laid_in_domain ws ns = eq_bytes (table_words (table_of ws ns).rows) ws && in_domain (table_of ws ns)

-- how many occurrences the roots of such rows have, or 9 for rows past a limit
unfoldable pub check_domain : List ℕ → List ℕ → Outcome ℕ
unfolding laid_in_domain table_of trees occurrences
check_domain ws ns = cond (laid_in_domain ws ns) (ok (table_of ws ns)) (refused (by 9)) >>= λ t. ok (occurrences (trees t))

-- the same, as the code gives it
abbrev pub checked : Option ℕ → Outcome ℕ
checked (Some n) = ok n
checked None = refused (by 9)

-- ---- the tests of a row, in the code's order

-- a row of 35 words after i others
unfoldable pub row_test : ℕ → List ℕ → Bool
unfolding fields_test every
row_test i w = leb (get_or w 2 0) 32 && (below 1 (drop (3 + get_or w 2 0) w) && fields_test (get_or w 0 0) (get_or w 1 0) (take (get_or w 2 0) (drop 3 w)) i)

-- n rows after i others
unfoldable pub rows_test : ℕ → ℕ → List ℕ → Bool
unfolding row_test
rows_test i zero ws = true
rows_test i (suc n) ws = row_test i (take 35 ws) && rows_test (suc i) n (drop 35 ws)

-- whole rows, and no more rows and roots than 01 lets a list have
pub record Numbered (ws ns : List ℕ) : Type 0 where
  pub whole : length ws ≡ length ws / 35 * 35
  pub few_rows : length ws / 35 ≤ 1024
  pub few_roots : length ns ≤ 64
