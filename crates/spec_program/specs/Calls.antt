-- Load, extract and print one after another, over the rows that one hands to the next (01, "Turned down, by operation"). Assumes nothing.
use Rattle.std.specs.Prelude.{ℕ, Bool, List}
use Rattle.spec_tree.specs.Outcome.{Outcome, ◌>>=◌}
use Rattle.spec_tree.specs.Layout.{table_words}
use Rattle.spec_sheet.specs.Sheet.{load}
use Rattle.spec_cse.specs.Call.{extract_call, work_words, work_bytes}
use Rattle.spec_program.specs.Print.{print_call}

-- given how many answer rows and bytes are lent
unfoldable pub by_calls : Bool → ℕ → ℕ → List ℕ → Outcome (List ℕ)
unfolding load table_words extract_call print_call
by_calls scoped rows_lent bytes_lent sheet =
    load 1024 64 sheet >>= λ t.
    let node_rows = table_words t.rows in
    extract_call scoped work_words work_bytes node_rows t.roots rows_lent >>= λ x.
    print_call node_rows x.words bytes_lent
